use Rattle.std.proofs.Common.{◌∙◌, refl, arith}
use Rattle.std.proofs.lemmas.Slice.{put_mid-paste}
use Rattle.octets.proofs.Bytes.{paste-placed}
use Rattle.octets.proofs.copy.Goals as goal

pub returns : goal.returns
returns c =
    put_mid-paste _ _ _ _ _ _ c.copy_from_slice.ensures.after (omega arith) refl
    ∙ paste-placed _ _ _ (omega arith)
