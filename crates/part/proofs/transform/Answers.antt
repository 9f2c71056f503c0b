use mathlib.Core.Path.{sym, ◌∙◌}
use Rattle.scheme.proofs.Fitting.{fits_length, fits_asks}
use Rattle.part.proofs.transform.Goals as goal

pub cipher_part-requires : goal.cipher_part-requires
cipher_part-requires c =
    let a = c.args in
    let w = sym c.fits.ensures ∙ c.if-not-fits.false in (
      fits_length a.parameters _ _ c.if-parameters-ne1.false _ _ w,
      rw (c.of.ensures, c.of-2.ensures) (fits_asks a.parameters _ _ c.if-parameters-ne1.false _ _ w),
    )
