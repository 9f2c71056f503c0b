-- Two patterns that cipher the same blocks of a range: under them a sample becomes the same, and the same bytes are held.
use mathlib.Core.List.{List, [], ◌∷◌}
use mathlib.Core.Path.{◌≡◌, refl, ap, ◌∙◌, fun_ext}
use Prim.Native.Nat.{ℕ}
use lib.ListN.{length}
use Rattle.modes_spec.specs.declared.Direction.{Direction}
use Rattle.modes_spec.specs.Modes.{Cipher}
use Rattle.track_spec.specs.declared.Parameters.{Parameters}
use Rattle.subsample_spec.specs.declared.Entry.{Entry}
use Rattle.subsample_spec.specs.declared.SubsampleMap.{SubsampleMap}
use Rattle.scheme.specs.declared.Pattern.{Pattern}
use Rattle.scheme.specs.declared.Scheme.{Scheme}
use Rattle.scheme.specs.declared.Scheme.TheVariants.{Cenc, Cbc1, Cens, Cbcs}
use Rattle.scheme.specs.Layout.{pattern_of, in_crypt_run, is_ciphered, marks, mask}
use Rattle.scheme.specs.WholeSample.{over_each, whole}
use Rattle.scheme.specs.Machine.{State, feed_sample}
use Rattle.scheme.specs.Held.{in_block, held_at}
use Rattle.scheme.specs.Part.{entries_of, ciphered, held_under, feed_under}

module _ (a b : Pattern) (same : (o : ℕ) → in_crypt_run a o ≡ in_crypt_run b o) where
  same_byte : (s : Scheme) (n o : ℕ) → is_ciphered s a n o ≡ is_ciphered s b n o
  unfolding is_ciphered
  same_byte Cenc n o = refl
  same_byte Cbc1 n o = refl
  same_byte Cens n o = rw (same o)
  same_byte Cbcs n o = rw (same o)

  same-ciphered : (s : Scheme) → is_ciphered s a ≡ is_ciphered s b
  same-ciphered s = fun_ext (λ n. fun_ext (λ o. same_byte s n o))

  same-mask : (s : Scheme) (es : List Entry) → mask s a es ≡ mask s b es
  unfolding mask
  same-mask s es = ap (λ (f : ℕ → ℕ → _). marks f es) (same-ciphered s)

  same_each : (f : List ℕ → List ℕ) (s : Scheme) (es : List Entry) (xs : List ℕ) → over_each f s a es xs ≡ over_each f s b es xs
  unfolding over_each
  same_each f s [] xs = refl
  same_each f s (e ∷ es) xs = rw (same-ciphered s, same_each f s es _)

  pub same_whole : (E D : Cipher) (iv : List ℕ) (es : List Entry) (d : Direction) (s : Scheme) (xs : List ℕ)
      → whole E D iv a es d s xs ≡ whole E D iv b es d s xs
  unfolding whole
  same_whole E D iv es d Cenc xs = rw (same-mask Cenc es)
  same_whole E D iv es d Cbc1 xs = rw (same-mask Cbc1 es)
  same_whole E D iv es d Cens xs = rw (same-mask Cens es)
  same_whole E D iv es d Cbcs xs = same_each _ Cbcs es xs

  pub same_held : (es : List Entry) (s : Scheme) (x : ℕ) → held_at a es s x ≡ held_at b es s x
  unfolding held_at in_block
  same_held es Cenc x = refl
  same_held es Cbc1 x = rw (same-ciphered Cbc1)
  same_held es Cens x = refl
  same_held es Cbcs x = rw (same-ciphered Cbcs)

  pub same-feed : (E D : Cipher) (d : Direction) (s : Scheme) (iv : List ℕ) (es : List Entry) (t : State) (xs : List ℕ)
      → feed_sample E D d s a iv es t xs ≡ feed_sample E D d s b iv es t xs
  unfolding feed_sample
  same-feed E D d s iv es t xs = rw (same-mask s es)

-- The same of two tracks that differ in the pattern, and in nothing else that a sample goes by.
module _ (p q : Parameters) (code : p.code ≡ q.code) (protected : p.protected ≡ q.protected)
    (same : (o : ℕ) → in_crypt_run (pattern_of p) o ≡ in_crypt_run (pattern_of q) o) where
  same_entries : (m : SubsampleMap) (n : ℕ) → entries_of p m n ≡ entries_of q m n
  unfolding entries_of
  same_entries m n = rw protected

  pub ciphered-same : (E D : Cipher) (d : Direction) (m : SubsampleMap) (iv xs : List ℕ)
      → ciphered E D d p m iv xs ≡ ciphered E D d q m iv xs
  unfolding ciphered
  ciphered-same E D d m iv xs =
      same_whole (pattern_of p) (pattern_of q) same E D iv _ d _ xs ∙ rw (same_entries m (length xs), code)

  pub held_same : (m : SubsampleMap) (n x : ℕ) → held_under p m n x ≡ held_under q m n x
  unfolding held_under
  held_same m n x = same_held (pattern_of p) (pattern_of q) same _ _ x ∙ rw (same_entries m n, code)

  pub fed_same : p.constant_iv ≡ q.constant_iv → (E D : Cipher) (d : Direction) (m : SubsampleMap) (n : ℕ) (t : State) (xs : List ℕ)
      → feed_under E D d p m n t xs ≡ feed_under E D d q m n t xs
  unfolding feed_under
  fed_same iv E D d m n t xs =
      same-feed (pattern_of p) (pattern_of q) same E D d _ _ _ t xs ∙ rw (same_entries m n, code, iv)
