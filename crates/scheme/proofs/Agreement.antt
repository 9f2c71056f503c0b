-- The machine over a whole sample (specs/Machine) releases what the whole-sample definition (specs/WholeSample) makes of it.
use mathlib.Core.Path.{◌≡◌, refl, sym, ap, ◌∙◌}
use mathlib.Core.Bool.{Bool, true, false, cond, ◌&&◌, and-false}
use mathlib.Core.List.{List, [], ◌∷◌, ◌++◌, append_assoc, append-nil}
use mathlib.Core.Logic.{⊎_elim}
use Prim.Native.Nat.{ℕ, zero, suc, ◌+◌, ◌-◌, ◌*◌, ◌/◌, ◌%◌, ◌≤◌, ◌<◌}
use native.Mathlib.Nat.{zero-add, add-zero, suc_inj, suc-add}
use native.Mathlib.Numerals.{add-one}
use native.Mathlib.Omega.{arith}
use lib.Dec.{ltb, eqb}
use lib.ListN.{length, get_or, take, drop, replicate, length-append, length-replicate, length-drop, take-append-drop}
use lib.Seq.{get_or-drop, drop-drop, take_at, drop_at, length-take-le}
use Rattle.octets.specs.Xor.{◌⊕◌}
use borrow.Author.Tests.{eqb-true, eqb-false, eq-eqb, ne_eqb, lt-ltb, le-ltb}
use Rattle.subsample_spec.specs.declared.Entry.{Entry}
use Rattle.scheme.specs.declared.Pattern.{Pattern}
use Rattle.scheme.specs.declared.Scheme.{Scheme}
use Rattle.scheme.specs.declared.Scheme.TheVariants.{Cenc, Cbc1, Cens, Cbcs}
use Rattle.scheme.specs.Layout.{is_crypt_block, total, in_whole_block, in_crypt_run, tabulate, is_ciphered, range_marks, marks, mask, restarts, restart_mask, chosen, replaced, count}
use Rattle.modes_spec.specs.declared.Direction.{Direction}
use Rattle.modes_spec.specs.Modes.{Cipher, counter_at, stream_byte, ctr, block_out, block_chain, cbc_blocks, cbc, Sized}
use Rattle.scheme.specs.WholeSample.{over, over_each, whole}
use Rattle.octets.specs.Bytes.{Bytes}
use Rattle.modes_spec.proofs.Counter.{steps, no_step}
use Rattle.scheme.proofs.Patterns.{first_or_none}
use Rattle.scheme.proofs.Pieces.{cond_law, count-marked, count-unmarked, length_block_out, feed-append, feed_position, held_after, Added, feed_adds}
use Rattle.scheme.specs.declared.Mode.{Mode}
use Rattle.scheme.specs.declared.Mode.TheVariants.{Counter, Chain}
use Rattle.scheme.specs.Machine.{free, State, Stepped, mode_of, chain_at, plain, counted, chained, ciphered_step, step, feed, feed_sample}

-- ---- what stands at a place of a list of marks

module _ (l : List Bool) (p : ℕ) (m : Bool) (ms : List Bool) (h : drop p l ≡ m ∷ ms) where
  pub drop_head : get_or l p false ≡ m
  drop_head = sym (simp (h, add-zero) at (get_or-drop p l 0 false))

  pub drop_tail : drop (suc p) l ≡ ms
  drop_tail = sym (simp (h, add-one) at (drop-drop 1 p l))

pub drop_part : (l : List Bool) (p n : ℕ) (ms ns : List Bool) → length ms ≡ n → drop p l ≡ ms ++ ns → drop (p + n) l ≡ ns
drop_part l p n ms ns h e = sym (drop-drop n p l) ∙ ap (drop n) e ∙ drop_at ms ns n h

-- ---- the counter mode

-- after a ciphered byte: the counter block is raised at each 16th
module _ (iv : List ℕ) (long : 8 ≤ length iv) where
  pub next-block : (r j : ℕ) → r % 16 ≡ j % 16
      → cond (eqb (r % 16) 15) (counter_at (counter_at iv (j / 16)) 1) (counter_at iv (j / 16)) ≡ counter_at iv (suc j / 16)
  next-block r j h =
      cond_law (λ (b : List ℕ). b ≡ counter_at iv (suc j / 16)) (eqb (r % 16) 15)
      (λ e. steps iv long (j / 16) 1 ∙ ap (counter_at iv) (omega (arith, eqb-true (r % 16) 15 e)))
      (λ e. ap (counter_at iv) (let ne : (r % 16 ≡ 15) → ⊥ = eqb-false (r % 16) 15 e in omega arith))

module _ (E D : Cipher) (d : Direction) (iv : List ℕ) (M F : List Bool) (long : 8 ≤ length iv) where
  counter_feed : (xs : List ℕ) (ms : List Bool) (p : ℕ) (h : List ℕ) (r : ℕ) → drop p M ≡ ms → length xs ≡ length ms
      → count (take p M) ≡ r
      → (feed E D d Counter iv M F (record { position = p; block = counter_at iv (r / 16); held = h }) xs).released
      ≡ over (ctr E iv r) ms xs
  unfolding feed step plain ciphered_step counted over chosen replaced ctr stream_byte count
  counter_feed [] [] p h r at l er = refl
  counter_feed [] (m ∷ ms) p h r at l er = absurd (omega arith)
  counter_feed (x ∷ xs) [] p h r at l er = absurd (omega arith)
  counter_feed (x ∷ xs) (false ∷ ms) p h r at l er =
      rw (drop_head M p false ms at)
      (ap (λ (ys : List ℕ). x ∷ ys) (counter_feed xs ms (suc p) h r (drop_tail M p false ms at) (suc_inj l)
      (count-unmarked M p (drop_head M p false ms at) ∙ er)))
  counter_feed (x ∷ xs) (true ∷ ms) p h r at l er =
      rw (drop_head M p true ms at, er, next-block iv long r r refl)
      (ap (λ (ys : List ℕ). x ⊕ (stream_byte E iv r) ∷ ys) (counter_feed xs ms (suc p) h (suc r) (drop_tail M p true ms at)
      (suc_inj l) (count-marked M p (drop_head M p true ms at) ∙ ap suc er)))

-- ---- the chain mode: CBC over the marked bytes, block by block

chosen_run : (b ys : List ℕ) (ms : List Bool) → chosen (replicate (length b) true ++ ms) (b ++ ys) ≡ b ++ chosen ms ys
unfolding chosen
chosen_run [] ys ms = refl
chosen_run (x ∷ b) ys ms = ap (λ (l : List ℕ). x ∷ l) (chosen_run b ys ms)

replaced_run : (o b zs ys : List ℕ) (ms : List Bool) → length o ≡ length b
    → replaced (replicate (length b) true ++ ms) (o ++ zs) (b ++ ys) ≡ o ++ replaced ms zs ys
unfolding replaced
replaced_run [] [] zs ys ms l = refl
replaced_run [] (x ∷ b) zs ys ms l = absurd (omega arith)
replaced_run (y ∷ o) [] zs ys ms l = absurd (omega arith)
replaced_run (y ∷ o) (x ∷ b) zs ys ms l = ap (λ (l : List ℕ). y ∷ l) (replaced_run o b zs ys ms (suc_inj l))

module _ (E D : Cipher) (sE : Sized E) (sD : Sized D) (d : Direction) where
  cbc_block : (c b zs : List ℕ) → length b ≡ 16
      → cbc E D d c (b ++ zs) ≡ block_out E D d c b ++ cbc E D d (block_chain E D d c b) zs
  unfolding cbc cbc_blocks
  cbc_block c b zs l =
      let n : length (b ++ zs) / 16 ≡ suc (length zs / 16) = simp (length-append, l) (omega arith) in
      rw n (simp (take_at b zs 16 l, drop_at b zs 16 l))

  over-block : (c b ys : List ℕ) (ms : List Bool) → length b ≡ 16
      → over (cbc E D d c) (replicate 16 true ++ ms) (b ++ ys)
      ≡ block_out E D d c b ++ over (cbc E D d (block_chain E D d c b)) ms ys
  unfolding over
  over-block c b ys ms l =
      rw (rw l at (chosen_run b ys ms), cbc_block c b (chosen ms ys) l)
      (rw l at (replaced_run (block_out E D d c b) b (cbc E D d (block_chain E D d c b) (chosen ms ys)) ys ms
      (length_block_out E D sE sD d c b l ∙ sym l)))

-- a mask cut into clear bytes and whole blocks; the chain starts anew in the first block if a, and in no other
data Blockwise : Bool → List Bool → List Bool → Type 0 where
  done : {a : Bool} → Blockwise a [] []
  clear : {a f : Bool} {ms fs : List Bool} → Blockwise a ms fs → Blockwise a (false ∷ ms) (f ∷ fs)
  block : {a : Bool} {ms fs : List Bool} → Blockwise false ms fs → Blockwise a (replicate 16 true ++ ms) (replicate 16 a ++ fs)

blockwise_append : {ms fs ns gs : List Bool} → Blockwise false ms fs → Blockwise false ns gs
    → Blockwise false (ms ++ ns) (fs ++ gs)
blockwise_append done c = c
blockwise_append (clear b) c = clear (blockwise_append b c)
blockwise_append (block b) c = block (blockwise_append b c)

module _ (E D : Cipher) (sE : Sized E) (sD : Sized D) (d : Direction) (iv : List ℕ) (M F : List Bool) where
  -- the bytes of a block: all but the last are held, and with the last one the block is released
  pub block-feed : (ys : List ℕ) (p q : ℕ) (c h : List ℕ) (a : Bool) (ms fs : List Bool) → 1 ≤ length ys
      → length h + length ys ≡ 16 → q ≡ p + length ys
      → drop p M ≡ replicate (length ys) true ++ ms → drop p F ≡ replicate (length ys) a ++ fs
      → feed E D d Chain iv M F (record { position = p; block = c; held = h }) ys
      ≡ record {
        state = record { position = q; block = block_chain E D d (cond a iv c) (h ++ ys); held = [] };
        released = block_out E D d (cond a iv c) (h ++ ys);
      }
  unfolding feed step ciphered_step chained chain_at
  block-feed [] p q c h a ms fs e l eq eM eF = absurd (omega arith)
  block-feed (y ∷ []) p q c h a ms fs e l eq eM eF =
      rw (drop_head M p true ms eM, drop_head F p a fs eF, eq-eqb (length h) 15 (omega arith))
      (let s : q ≡ suc p = omega arith in simp (s, append-nil))
  block-feed (y ∷ y' ∷ ys) p q c h a ms fs e l eq eM eF =
      rw (drop_head M p true (replicate (suc (length ys)) true ++ ms) eM, ne_eqb (length h) 15 (omega arith))
      (rw (append_assoc h (y ∷ []) (y' ∷ ys)) at
      (block-feed (y' ∷ ys) (suc p) q c (h ++ (y ∷ [])) a ms fs (omega arith) (simp length-append (omega arith)) (omega arith)
      (drop_tail M p true (replicate (suc (length ys)) true ++ ms) eM)
      (drop_tail F p a (replicate (suc (length ys)) a ++ fs) eF)))

  abbrev out : State → List ℕ → List ℕ
  out t xs = (feed E D d Chain iv M F t xs).released

  blockwise_block : (ys zs R : List ℕ) (p : ℕ) (c : List ℕ) (a : Bool) (ms ns gs : List Bool) → 16 ≤ length ys
      → drop p M ≡ replicate 16 true ++ ns → drop p F ≡ replicate 16 a ++ gs
      → out (free (p + 16) (block_chain E D d (cond a iv c) (take 16 ys))) (drop 16 ys ++ zs)
      ≡ over (cbc E D d (block_chain E D d (cond a iv c) (take 16 ys))) ms (drop 16 ys) ++ R
      → out (free p c) (ys ++ zs) ≡ over (cbc E D d (cond a iv c)) (replicate 16 true ++ ms) ys ++ R
  blockwise_block ys zs R p c a ms ns gs l eM eF rest =
      let n : length (take 16 ys) ≡ 16 = length-take-le 16 ys l in
      rw (← (take-append-drop 16 ys)) (go (take 16 ys) (drop 16 ys) n rest)
    where
      go : (b ys : List ℕ) → length b ≡ 16
          → out (free (p + 16) (block_chain E D d (cond a iv c) b)) (ys ++ zs)
          ≡ over (cbc E D d (block_chain E D d (cond a iv c) b)) ms ys ++ R
          → out (free p c) (b ++ ys ++ zs) ≡ over (cbc E D d (cond a iv c)) (replicate 16 true ++ ms) (b ++ ys) ++ R
      go b ys l rest =
          let f = block-feed b p (p + 16) c [] a ns gs (omega arith) (omega arith) (omega arith) (rw l eM) (rw l eF) in
          rw (
            append_assoc b ys zs,
            feed-append E D d Chain iv M F (free p c) b (ys ++ zs),
            f,
            rest,
            over-block E D sE sD d (cond a iv c) b ys ms l,
          )
          (simp append_assoc)

  blockwise_clear : (f : List ℕ → List ℕ) (y : ℕ) (ys zs R : List ℕ) (p : ℕ) (c : List ℕ) (ms ns : List Bool)
      → drop p M ≡ false ∷ ns
      → out (free (suc p) c) (ys ++ zs) ≡ over f ms ys ++ R
      → out (free p c) (y ∷ ys ++ zs) ≡ over f (false ∷ ms) (y ∷ ys) ++ R
  unfolding feed step plain over chosen replaced
  blockwise_clear f y ys zs R p c ms ns eM rest = rw (drop_head M p false ns eM) (ap (λ (l : List ℕ). y ∷ l) rest)

  -- what is fed over such a part of the mask comes out as CBC has it, whatever follows it
  blockwise_feed : {a : Bool} {ms fs : List Bool} → Blockwise a ms fs
      → (ys zs R : List ℕ) (p q : ℕ) (c : List ℕ) (ns gs : List Bool) → length ys ≡ length ms → q ≡ p + length ms
      → drop p M ≡ ms ++ ns → drop p F ≡ fs ++ gs
      → ((c' : List ℕ) → out (free q c') zs ≡ R)
      → out (free p c) (ys ++ zs) ≡ over (cbc E D d (cond a iv c)) ms ys ++ R
  unfolding over replaced
  blockwise_feed done [] zs R p q c ns gs l eq eM eF k = let s : p ≡ q = omega arith in rw s (k c)
  blockwise_feed done (y ∷ ys) zs R p q c ns gs l eq eM eF k = absurd (omega arith)
  blockwise_feed (clear b) [] zs R p q c ns gs l eq eM eF k = absurd (omega arith)
  blockwise_feed (clear {a = a} {f = f} {ms = ms} {fs = fs} b) (y ∷ ys) zs R p q c ns gs l eq eM eF k =
      blockwise_clear (cbc E D d (cond a iv c)) y ys zs R p c ms (ms ++ ns) eM
      (blockwise_feed b ys zs R (suc p) q c ns gs (suc_inj l) (omega arith) (drop_tail M p false (ms ++ ns) eM)
      (drop_tail F p f (fs ++ gs) eF) k)
  blockwise_feed (block {a = a} {ms = ms} {fs = fs} b) ys zs R p q c ns gs l eq eM eF k =
      blockwise_block ys zs R p c a ms (ms ++ ns) (fs ++ gs) (omega arith) eM eF
      (blockwise_feed b (drop 16 ys) zs R (p + 16) q (block_chain E D d (cond a iv c) (take 16 ys)) ns gs
      (length-drop 16 ys ∙ omega arith) (omega arith)
      (sym (drop-drop 16 p M) ∙ ap (drop 16) eM) (sym (drop-drop 16 p F) ∙ ap (drop 16) eF) k)

-- ---- the masks of the chain schemes are cut so

clears : {a : Bool} {ms fs : List Bool} (n : ℕ) (f : Bool) → Blockwise a ms fs
    → Blockwise a (replicate n false ++ ms) (replicate n f ++ fs)
clears zero f c = c
clears (suc n) f c = clear (clears n f c)

all_clear : (n : ℕ) → Blockwise false (replicate n false) (replicate n false)
all_clear zero = done
all_clear (suc n) = clear (all_clear n)

either : {ms fs : List Bool} (b : Bool) → Blockwise false ms fs
    → Blockwise false (replicate 16 b ++ ms) (replicate 16 false ++ fs)
either true c = block c
either false c = clears 16 false c

-- a function of the block's number, as one of the byte's offset
abbrev pub by_block : (ℕ → Bool) → ℕ → Bool
by_block G o = G (o / 16)

-- such a function over r bytes of block k and the m bytes after them
module _ (G : ℕ → Bool) where
  tabulate_run : (k o r m : ℕ) → k * 16 ≤ o → o + r ≤ k * 16 + 16
      → tabulate (by_block G) o (r + m) ≡ replicate r (G k) ++ tabulate (by_block G) (o + r) m
  unfolding tabulate
  tabulate_run k o zero m l u = simp (zero-add, add-zero)
  tabulate_run k o (suc r) m l u =
      let q : o / 16 ≡ k = omega arith in
      let s : o + suc r ≡ suc o + r = omega arith in
      rw (suc-add r m, q, s) (ap (λ (l : List Bool). G k ∷ l) (tabulate_run k (suc o) r m (omega arith) (omega arith)))

  pub tabulate-block : (k m : ℕ)
      → tabulate (by_block G) (k * 16) (16 + m) ≡ replicate 16 (G k) ++ tabulate (by_block G) (suc k * 16) m
  tabulate-block k m =
      let s : suc k * 16 ≡ k * 16 + 16 = omega arith in rw s (tabulate_run k (k * 16) 16 m (omega arith) (omega arith))

  pub tabulate_last : (k r : ℕ) → r < 16 → tabulate (by_block G) (k * 16) r ≡ replicate r (G k) ++ []
  unfolding tabulate
  tabulate_last k r l = rw add-zero at (tabulate_run k (k * 16) r 0 (omega arith) (omega arith))

module _ (G H : ℕ → Bool) where
  -- the blocks from k on, in none of which the chain starts anew, and a last part that stays clear
  blockwise_later : (q k r m : ℕ) → m ≡ q * 16 + r → r < 16 → G (k + q) ≡ false → ((j : ℕ) → k ≤ j → H j ≡ false)
      → Blockwise false (tabulate (by_block G) (k * 16) m) (tabulate (by_block H) (k * 16) m)
  blockwise_later zero k r m e l g h =
      let s : m ≡ r = omega arith in
      rw (s, tabulate_last G k r l, tabulate_last H k r l, rw add-zero at g) (clears r (H k) done)
  blockwise_later (suc q) k r m e l g h =
      let s : m ≡ 16 + (q * 16 + r) = omega arith in
      let n : suc k + q ≡ k + suc q = omega arith in
      rw (s, tabulate-block G k (q * 16 + r), tabulate-block H k (q * 16 + r), h k (omega arith))
      (either (G k) (blockwise_later q (suc k) r (q * 16 + r) refl l (rw n g) (λ j u. h j (omega arith))))

  -- m bytes in which no block is ciphered
  blockwise_none : {a : Bool} → ((j : ℕ) → G j ≡ false) → (o m : ℕ) → Blockwise a (tabulate (by_block G) o m) (tabulate (by_block H) o m)
  unfolding tabulate
  blockwise_none g o zero = done
  blockwise_none g o (suc m) = rw (g (o / 16)) (clear (blockwise_none g (suc o) m))

  -- a whole range of n bytes whose first block is ciphered, and in which the chain starts anew there
  blockwise_range : (n : ℕ) → G (n / 16) ≡ false → (0 < n / 16 → G 0 ≡ true) → H 0 ≡ true → ((j : ℕ) → 1 ≤ j → H j ≡ false)
      → Blockwise true (tabulate (by_block G) 0 n) (tabulate (by_block H) 0 n)
  blockwise_range n g first h later = go (n / 16) refl
    where
      go : (q : ℕ) → n / 16 ≡ q → Blockwise true (tabulate (by_block G) 0 n) (tabulate (by_block H) 0 n)
      go zero e = rw (tabulate_last G 0 n (omega arith), tabulate_last H 0 n (omega arith), rw e at g) (clears n (H 0) done)
      go (suc q) e =
          let s : n ≡ 16 + (q * 16 + n % 16) = omega arith in
          let r : 1 + q ≡ n / 16 = omega arith in
          rw (s, tabulate-block G 0 (q * 16 + n % 16), tabulate-block H 0 (q * 16 + n % 16), first (omega arith), h)
          (block (blockwise_later q 1 (n % 16) (q * 16 + n % 16) refl (omega arith) (rw r g) later))

-- the marks of a range of cbc1 and of one of cbcs
module _ (pattern : Pattern) where
  blockwise_cbc1 : (n : ℕ) → Blockwise false (range_marks (is_ciphered Cbc1 pattern) n) (range_marks (restarts Cbc1) n)
  unfolding range_marks is_ciphered in_whole_block restarts
  blockwise_cbc1 n =
      blockwise_later (λ (k : ℕ). ltb k (n / 16)) (λ (k : ℕ). false) (n / 16) 0 (n % 16) n (omega arith) (omega arith)
      (le-ltb (0 + n / 16) (n / 16) (omega arith)) (λ j u. refl)

  blockwise_cbcs : (n : ℕ) → Blockwise true (range_marks (is_ciphered Cbcs pattern) n) (range_marks (restarts Cbcs) n)
  unfolding range_marks is_ciphered in_whole_block in_crypt_run restarts
  blockwise_cbcs n =
      ⊎_elim
      (λ c.
      blockwise_range (λ (k : ℕ). ltb k (n / 16) && is_crypt_block pattern k) (λ (k : ℕ). eqb k 0) n
      (rw (le-ltb (n / 16) (n / 16) (omega arith))) (λ u. rw (lt-ltb 0 (n / 16) u) c) refl (λ j u. ne_eqb j 0 (omega arith)))
      (λ c. blockwise_none (λ (k : ℕ). ltb k (n / 16) && is_crypt_block pattern k) (λ (k : ℕ). eqb k 0) (λ j. rw (c j) (and-false (ltb j (n / 16)))) 0 n)
      (first_or_none pattern)

  blockwise_sample : (es : List Entry) → Blockwise false (mask Cbc1 pattern es) (restart_mask Cbc1 es)
  unfolding mask restart_mask marks
  blockwise_sample [] = done
  blockwise_sample (e ∷ es) = clears e.clear false (blockwise_append (blockwise_cbc1 e.protected) (blockwise_sample es))

-- ---- the samples

over-unmarked : (f : List ℕ → List ℕ) (xs : List ℕ) → over f (replicate (length xs) false) xs ≡ xs
unfolding over replaced chosen
over-unmarked f [] = refl
over-unmarked f (x ∷ xs) = ap (λ (l : List ℕ). x ∷ l) (over-unmarked f xs)

length-tabulate : (f : ℕ → Bool) (o n : ℕ) → length (tabulate f o n) ≡ n
unfolding tabulate
length-tabulate f o zero = refl
length-tabulate f o (suc n) = ap suc (length-tabulate f (suc o) n)

pub length_range : (f : ℕ → ℕ → Bool) (n : ℕ) → length (range_marks f n) ≡ n
unfolding range_marks
length_range f n = length-tabulate (f n) 0 n

length-marks : (f : ℕ → ℕ → Bool) (es : List Entry) → length (marks f es) ≡ total es
unfolding marks total
length-marks f [] = refl
length-marks f (e ∷ es) = simp (length-append, length-replicate, length_range, length-marks f es)

pub length-mask : (s : Scheme) (pattern : Pattern) (es : List Entry) → length (mask s pattern es) ≡ total es
unfolding mask
length-mask s pattern es = length-marks (is_ciphered s pattern) es

module _ (E D : Cipher) (sE : Sized E) (sD : Sized D) (d : Direction) (iv : List ℕ) (pattern : Pattern) where
  -- cbc1: the whole mask at once
  cbc1-feed : (es : List Entry) (c xs : List ℕ) → length xs ≡ length (mask Cbc1 pattern es)
      → (feed E D d Chain iv (mask Cbc1 pattern es) (restart_mask Cbc1 es) (free 0 c) xs).released
      ≡ over (cbc E D d c) (mask Cbc1 pattern es) xs
  unfolding feed
  cbc1-feed es c xs l =
      simp append-nil at
      (blockwise_feed E D sE sD d iv (mask Cbc1 pattern es) (restart_mask Cbc1 es) (blockwise_sample pattern es) xs [] [] 0
      (0 + length (mask Cbc1 pattern es)) c [] [] l refl
      (sym (append-nil _)) (sym (append-nil _)) (λ c'. refl))

  -- cbcs: range by range
  module _ (M F : List Bool) where
    entry-feed : (a b : ℕ) (cs bs zs R : List ℕ) (p : ℕ) (c : List ℕ) (ns gs : List Bool) → length cs ≡ a → length bs ≡ b
        → drop p M ≡ replicate a false ++ (range_marks (is_ciphered Cbcs pattern) b ++ ns)
        → drop p F ≡ replicate a false ++ (range_marks (restarts Cbcs) b ++ gs)
        → ((c' : List ℕ) → (feed E D d Chain iv M F (free (p + (a + b)) c') zs).released ≡ R)
        → (feed E D d Chain iv M F (free p c) (cs ++ (bs ++ zs))).released
        ≡ cs ++ (over (cbc E D d iv) (range_marks (is_ciphered Cbcs pattern) b) bs ++ R)
    entry-feed a b cs bs zs R p c ns gs la lb eM eF k =
        rw (rw la at (over-unmarked (cbc E D d c) cs)) at
        (blockwise_feed E D sE sD d iv M F (all_clear a) cs (bs ++ zs)
        (over (cbc E D d iv) (range_marks (is_ciphered Cbcs pattern) b) bs ++ R) p (p + a) c
        (range_marks (is_ciphered Cbcs pattern) b ++ ns) (range_marks (restarts Cbcs) b ++ gs)
        (la ∙ sym (length-replicate a false)) (simp length-replicate) eM eF
        (λ c'.
        blockwise_feed E D sE sD d iv M F (blockwise_cbcs pattern b) bs zs R (p + a) (p + (a + b)) c' ns gs
        (lb ∙ sym (length_range (is_ciphered Cbcs pattern) b))
        (simp length_range (omega arith)) (drop_part M p a (replicate a false) _ (length-replicate a false) eM)
        (drop_part F p a (replicate a false) _ (length-replicate a false) eF) k))

    cbcs-feed : (es : List Entry) (xs : List ℕ) (p : ℕ) (c : List ℕ) → length xs ≡ total es → drop p M ≡ mask Cbcs pattern es
        → drop p F ≡ restart_mask Cbcs es
        → (feed E D d Chain iv M F (free p c) xs).released ≡ over_each (cbc E D d iv) Cbcs pattern es xs
    unfolding feed over_each mask restart_mask marks total
    cbcs-feed [] [] p c l eM eF = refl
    cbcs-feed [] (x ∷ xs) p c l eM eF = absurd (omega arith)
    cbcs-feed (e ∷ es) xs p c l eM eF =
        let a : ℕ = e.clear in
        let b : ℕ = e.protected in
        let s : take a xs ++ (take b (drop a xs) ++ drop (a + b) xs) ≡ xs =
        rw (← (drop-drop b a xs), take-append-drop b (drop a xs)) (take-append-drop a xs) in
        rw s at
        (entry-feed a b (take a xs) (take b (drop a xs)) (drop (a + b) xs)
        (over_each (cbc E D d iv) Cbcs pattern es (drop (a + b) xs)) p c (mask Cbcs pattern es) (restart_mask Cbcs es)
        (length-take-le a xs (omega arith)) (length-take-le b (drop a xs) (simp length-drop (omega arith))) eM eF
        (λ c'.
        cbcs-feed es (drop (a + b) xs) (p + (a + b)) c' (simp length-drop (omega arith))
        (drop_part M p (a + b) (replicate a false ++ range_marks (is_ciphered Cbcs pattern) b) (mask Cbcs pattern es)
        (simp (length-append, length-replicate, length_range)) (simp append_assoc eM))
        (drop_part F p (a + b) (replicate a false ++ range_marks (restarts Cbcs) b) (restart_mask Cbcs es)
        (simp (length-append, length-replicate, length_range)) (simp append_assoc eF))))

-- ---- a whole sample fed to the machine comes out as the whole-sample definition makes it

-- nothing is held at first
sound-start : (k : Mode) → 0 ≡ held_after k 0
unfolding held_after
sound-start Counter = refl
sound-start Chain = refl

module _ (E D : Cipher) (sE : Sized E) (sD : Sized D) (d : Direction) (iv : List ℕ) (bytes : Bytes 16 iv)
    (pattern : Pattern) (es : List Entry) where
  counter_sample : (M F : List Bool) (xs : List ℕ) → length xs ≡ length M
      → (feed E D d Counter iv M F (free 0 iv) xs).released ≡ over (ctr E iv 0) M xs
  unfolding count
  counter_sample M F xs l =
      rw (no_step iv bytes.size bytes.small) at (counter_feed E D d iv M F
      (omega (arith, bytes.size)) xs M 0 [] 0 refl l refl)

  pub machine_whole : (s : Scheme) (xs : List ℕ) → length xs ≡ total es
      → (feed_sample E D d s pattern iv es (free 0 iv) xs).released ≡ whole E D iv pattern es d s xs
  unfolding feed_sample mode_of whole
  machine_whole Cenc xs l = counter_sample (mask Cenc pattern es) (restart_mask Cenc es) xs (l ∙ sym (length-mask Cenc pattern es))
  machine_whole Cbc1 xs l = cbc1-feed E D sE sD d iv pattern es iv xs (l ∙ sym (length-mask Cbc1 pattern es))
  machine_whole Cens xs l = counter_sample (mask Cens pattern es) (restart_mask Cens es) xs (l ∙ sym (length-mask Cens pattern es))
  machine_whole Cbcs xs l =
      cbcs-feed E D sE sD d iv pattern (mask Cbcs pattern es) (restart_mask Cbcs es) es xs 0 iv l refl refl

  -- what has been released at position x is the beginning of the whole sample's result, but for the bytes held
  pub released : (s : Scheme) (xs : List ℕ) → length xs ≡ total es → (x : ℕ) → x ≤ length xs
      → (feed_sample E D d s pattern iv es (free 0 iv) (take x xs)).released
      ≡ take (x - held_after (mode_of s) (count (take x (mask s pattern es)))) (whole E D iv pattern es d s xs)
  unfolding feed_sample count
  released s xs l x u =
      let M : List Bool = mask s pattern es in
      let F : List Bool = restart_mask s es in
      let first : Stepped = feed E D d (mode_of s) iv M F (free 0 iv) (take x xs) in
      let rest : List ℕ = (feed E D d (mode_of s) iv M F first.state (drop x xs)).released in
      let w : whole E D iv pattern es d s xs ≡ first.released ++ rest =
      sym (machine_whole s xs l)
      ∙ (rw (take-append-drop x xs) at (feed-append E D d (mode_of s) iv M F (free 0 iv) (take x xs) (drop x xs))) in
      let added : Added (mode_of s) M (length {A = ℕ} [] + length (take x xs)) first =
      feed_adds E D sE sD d iv M F (mode_of s) (free 0 iv) (take x xs) (sound-start (mode_of s)) in
      let size : length (take x xs) ≡ x = length-take-le x xs u in
      let at : first.state.position ≡ x =
      feed_position E D d (mode_of s) iv M F (free 0 iv) (take x xs) ∙ (rw size (zero-add x)) in
      let held : length first.state.held ≡ held_after (mode_of s) (count (take x M)) = rw at at added.sound in
      rw w (sym (take_at first.released rest (x - held_after (mode_of s) (count (take x M))) (omega (arith, added.sum))))
