-- A part of a sample as the machine passes it, wherever it lies: it meets the marks ms and fs, and begins and ends with nothing
-- held.
use mathlib.Core.Path.{◌≡◌, refl, sym, ap, ◌∙◌}
use mathlib.Core.Bool.{Bool, true, false, cond}
use mathlib.Core.List.{List, [], ◌∷◌, ◌++◌, append_assoc}
use Prim.Native.Nat.{ℕ, zero, suc, ◌+◌, ◌*◌, ◌/◌, ◌%◌, ◌≤◌, ◌<◌}
use native.Mathlib.Nat.{add-zero}
use native.Mathlib.Omega.{arith}
use lib.ListN.{length, get_or, take, drop, replicate, length-append, length-replicate, take-append-drop, length-drop, replicate-append-replicate}
use lib.Seq.{take-add, take_at, length-take-le}
use Rattle.modes_spec.specs.declared.Direction.{Direction}
use Rattle.modes_spec.specs.Modes.{Cipher, counter_at, stream_byte, ctr, block_out, block_chain, cbc, chain_end, Sized}
use Rattle.octets.specs.Bytes.{Bytes}
use Rattle.modes_spec.proofs.Counter.{no_step}
use Rattle.modes_spec.proofs.Chained.{cbc_step, end_step, cbc_rest, end_rest}
use Rattle.scheme.proofs.Pieces.{count-marked}
use Rattle.scheme.proofs.Agreement.{next-block, drop_head, drop_tail, drop_part, block-feed}
use Rattle.scheme.specs.Machine.{free, State, plain, counted, ciphered_step, step, feed}
use Rattle.scheme.specs.Walk.{left, Passes}
use Rattle.scheme.proofs.Positions.{count-append}
use Rattle.scheme.specs.Layout.{count}
use Rattle.scheme.specs.declared.Mode.{Mode}
use Rattle.scheme.specs.declared.Mode.TheVariants.{Counter, Chain}

-- how many are marked before the part's end
pub count_part : (M : List Bool) (p n : ℕ) (ms ns : List Bool) → length ms ≡ n → drop p M ≡ ms ++ ns
    → count (take (p + n) M) ≡ count (take p M) + count ms
count_part M p n ms ns l e = rw (take-add p n M, e, take_at ms ns n l) (count-append (take p M) ms)

module _ (E D : Cipher) (d : Direction) (k : Mode) (iv : List ℕ) (M F : List Bool) where
  pub feed_joined : (t : State) (xs ys : List ℕ)
      → feed E D d k iv M F t (xs ++ ys)
      ≡ record {
        state = (feed E D d k iv M F (feed E D d k iv M F t xs).state ys).state;
        released = (feed E D d k iv M F t xs).released ++ (feed E D d k iv M F (feed E D d k iv M F t xs).state ys).released;
      }
  unfolding feed
  feed_joined t [] ys = refl
  feed_joined t (x ∷ xs) ys = rw (feed_joined (step E D d k iv M F t x).state xs ys) (rw append_assoc)

module _ (E D : Cipher) (d : Direction) (k : Mode) (iv : List ℕ) where
  pub passes_none : (u : ℕ) (c : List ℕ) → u < 16 → Passes E D d k iv [] [] u c [] u c []
  unfolding feed count
  passes_none u c l = record { marked = refl; anewed = refl; rank = omega arith; fed = λ M F p ns gs eM eF h. rw add-zero }

module _ {E D : Cipher} {d : Direction} {k : Mode} {iv : List ℕ} {ms fs : List Bool} {u : ℕ} {c xs : List ℕ} {u' : ℕ}
    {c' ys : List ℕ} {ms' fs' : List Bool} {xs' : List ℕ} {u'' : ℕ} {c'' ys' : List ℕ}
    (a : Passes E D d k iv ms fs u c xs u' c' ys) (b : Passes E D d k iv ms' fs' u' c' xs' u'' c'' ys') where
  pub passes_join : Passes E D d k iv (ms ++ ms') (fs ++ fs') u c (xs ++ xs') u'' c'' (ys ++ ys')
  passes_join =
      record {
        marked = simp length-append (omega (arith, a.marked, b.marked));
        anewed = simp length-append (omega (arith, a.anewed, b.anewed));
        rank = b.rank ∙ rw (a.rank, count-append ms ms') (omega arith);
        fed = λ M F p ns gs eM eF h.
            let q : ℕ = p + length xs in
            let eM' : drop p M ≡ ms ++ (ms' ++ ns) = eM ∙ append_assoc ms ms' ns in
            let eF' : drop p F ≡ fs ++ (fs' ++ gs) = eF ∙ append_assoc fs fs' gs in
            let first : feed E D d k iv M F (free p c) xs ≡ left q c' ys = a.fed M F p (ms' ++ ns) (fs' ++ gs) eM' eF' h in
            let r : count (take q M) % 16 ≡ u' =
            rw (count_part M p (length xs) ms (ms' ++ ns) a.marked eM') (sym (a.rank ∙ omega arith)) in
            let second : feed E D d k iv M F (free q c') xs' ≡ left (q + length xs') c'' ys' =
            b.fed M F q ns gs (drop_part M p (length xs) ms (ms' ++ ns) a.marked eM')
            (drop_part F p (length xs) fs (fs' ++ gs) a.anewed eF') r in
            let s : p + length (xs ++ xs') ≡ q + length xs' = simp length-append (omega arith) in
            feed_joined E D d k iv M F (free p c) xs xs' ∙ rw (first, second, s);
      }

-- ---- bytes that stay

module _ (E D : Cipher) (d : Direction) (k : Mode) (iv : List ℕ) where
  clear_feed : (M F : List Bool) (p : ℕ) (c xs : List ℕ) (ns : List Bool) → drop p M ≡ replicate (length xs) false ++ ns
      → feed E D d k iv M F (free p c) xs ≡ left (p + length xs) c xs
  unfolding feed step plain
  clear_feed M F p c [] ns e = rw add-zero
  clear_feed M F p c (x ∷ xs) ns e =
      let t : drop p M ≡ false ∷ (replicate (length xs) false ++ ns) = e in
      let s : p + suc (length xs) ≡ suc p + length xs = omega arith in
      rw (drop_head M p false _ t, s, clear_feed M F (suc p) c xs ns (drop_tail M p false _ t))

  count_none : (n : ℕ) → count (replicate n false) ≡ 0
  unfolding count
  count_none zero = refl
  count_none (suc n) = count_none n

  count_all : (n : ℕ) → count (replicate n true) ≡ n
  unfolding count
  count_all zero = refl
  count_all (suc n) = ap suc (count_all n)

  pub passes_clear : (fs : List Bool) (u : ℕ) (c xs : List ℕ) → u < 16 → length fs ≡ length xs
      → Passes E D d k iv (replicate (length xs) false) fs u c xs u c xs
  passes_clear fs u c xs l n =
      record {
        marked = length-replicate (length xs) false;
        anewed = n;
        rank = rw count_none (omega arith);
        fed = λ M F p ns gs eM eF h. clear_feed M F p c xs ns eM;
      }

-- ---- counter mode

module _ (E D : Cipher) (d : Direction) (iv : List ℕ) (c : List ℕ) (long : 8 ≤ length c) where
  ctr_feed : (M F : List Bool) (p j : ℕ) (xs : List ℕ) (ns : List Bool) → drop p M ≡ replicate (length xs) true ++ ns
      → count (take p M) % 16 ≡ j % 16
      → feed E D d Counter iv M F (free p (counter_at c (j / 16))) xs
      ≡ left (p + length xs) (counter_at c ((j + length xs) / 16)) (ctr E c j xs)
  unfolding feed step ciphered_step counted ctr stream_byte
  ctr_feed M F p j [] ns e h = rw (add-zero, add-zero)
  ctr_feed M F p j (x ∷ xs) ns e h =
      let t : drop p M ≡ true ∷ (replicate (length xs) true ++ ns) = e in
      let s : p + suc (length xs) ≡ suc p + length xs = omega arith in
      let v : j + suc (length xs) ≡ suc j + length xs = omega arith in
      let m : get_or M p false ≡ true = drop_head M p true _ t in
      rw (
        m,
        next-block c long (count (take p M)) j h,
        h,
        s,
        v,
        ctr_feed M F (suc p) (suc j) xs ns (drop_tail M p true _ t) (rw (count-marked M p m) (omega arith)),
      )

  pub passes_ctr : Bytes 16 c → (fs : List Bool) (u : ℕ) (xs : List ℕ) → u < 16 → length fs ≡ length xs
      → Passes E D d Counter iv (replicate (length xs) true) fs u c xs ((u + length xs) % 16) (counter_at c ((u + length xs) / 16))
      (ctr E c u xs)
  passes_ctr b fs u xs l a =
      let z : u / 16 ≡ 0 = omega arith in
      record {
        marked = length-replicate (length xs) true;
        anewed = a;
        rank = rw (count_all E D d Counter iv (length xs));
        fed = λ M F p ns gs eM eF h. rw (z, no_step c b.size b.small) at (ctr_feed M F p u xs ns eM (omega (arith, h)));
      }

-- ---- CBC

module _ (E D : Cipher) (sE : Sized E) (sD : Sized D) (d : Direction) (iv : List ℕ) where
  passes_block : (a : Bool) (c b : List ℕ) → length b ≡ 16
      → Passes E D d Chain iv (replicate 16 true) (replicate 16 a) 0 c b 0 (block_chain E D d (cond a iv c) b)
      (block_out E D d (cond a iv c) b)
  unfolding count
  passes_block a c b n =
      record {
        marked = sym n;
        anewed = sym n;
        rank = refl;
        fed = λ M F p ns gs eM eF h. block-feed E D sE sD d iv M F b p (p + length b) c [] a ns gs (omega arith)
            (omega arith) refl (rw n eM) (rw n eF);
      }

  abbrev Run : ℕ → Bool → List ℕ → List ℕ → Type 0
  Run q a c xs =
      Passes E D d Chain iv (replicate (16 + q * 16) true) (replicate 16 a ++ replicate (q * 16) false) 0 c xs 0
      (chain_end E D d (cond a iv c) xs) (cbc E D d (cond a iv c) xs)

  abbrev Later : ℕ → List ℕ → List ℕ → Type 0
  Later q c xs =
      Passes E D d Chain iv (replicate (q * 16) true) (replicate (q * 16) false) 0 c xs 0 (chain_end E D d c xs) (cbc E D d c xs)

  after : (q : ℕ) (a : Bool) (c xs : List ℕ) → length xs ≡ 16 + q * 16 → ((c xs : List ℕ) → length xs ≡ q * 16 → Later q c xs)
      → Run q a c xs
  after q a c xs n rest =
      let nb : length (take 16 xs) ≡ 16 = length-take-le 16 xs (omega arith) in
      let e : replicate (16 + q * 16) true ≡ replicate 16 true ++ replicate (q * 16) true =
      sym (replicate-append-replicate 16 (q * 16) true) in
      rw (cbc_step E D d (cond a iv c) xs (omega arith), end_step E D d (cond a iv c) xs (omega arith), e)
      (rw (take-append-drop 16 xs) at
      (passes_join (passes_block a c (take 16 xs) nb)
      (rest (block_chain E D d (cond a iv c) (take 16 xs)) (drop 16 xs) (length-drop 16 xs ∙ omega arith))))

  later : (q : ℕ) (c xs : List ℕ) → length xs ≡ q * 16 → Later q c xs
  later zero c [] n =
      rw (cbc_rest E D d c [] (omega arith), end_rest E D d c [] (omega arith)) (passes_none E D d Chain iv 0 c (omega arith))
  later zero c (x ∷ xs) n = absurd (omega arith)
  later (suc q) c xs n =
      let s : suc q * 16 ≡ 16 + q * 16 = omega arith in
      let e : replicate (16 + q * 16) false ≡ replicate 16 false ++ replicate (q * 16) false =
      sym (replicate-append-replicate 16 (q * 16) false) in
      rw (s, e) (after q false c xs (omega arith) (λ c xs n. later q c xs n))

  -- q blocks after a first one, in which the chain starts anew if a
  pub passes_cbc : (q : ℕ) (a : Bool) (c xs : List ℕ) → length xs ≡ 16 + q * 16 → Run q a c xs
  passes_cbc q a c xs n = after q a c xs n (λ c xs n. later q c xs n)
