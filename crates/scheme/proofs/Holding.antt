-- Held bytes: a state that holds bytes is the one that comes of feeding them from where nothing is held.
use mathlib.Core.Path.{◌≡◌, refl, sym, ap, ◌∙◌}
use mathlib.Core.Bool.{Bool, true, false}
use mathlib.Core.List.{List, [], ◌∷◌, ◌++◌, append_assoc, append-nil}
use Prim.Native.Nat.{ℕ, zero, suc, ◌+◌, ◌-◌, ◌/◌, ◌%◌, ◌≤◌, ◌<◌}
use native.Mathlib.Nat.{add-zero}
use native.Mathlib.Omega.{arith}
use lib.Dec.{ltb}
use lib.ListN.{length, get_or, take, drop, replicate, length-append, take-append-drop, length-drop, get_or-eq_default, drop_of_length-le}
use lib.Seq.{length-take-le, drop-cons, take_all}
use borrow.Author.Tests.{ne_eqb, lt-ltb, le-ltb, ltb-true, ltb-false}
use Rattle.modes_spec.specs.declared.Direction.{Direction}
use Rattle.subsample_spec.specs.declared.Entry.{Entry}
use Rattle.scheme.specs.declared.Pattern.{Pattern}
use Rattle.scheme.specs.declared.Scheme.{Scheme}
use Rattle.scheme.specs.declared.Scheme.TheVariants.{Cenc, Cbc1, Cens, Cbcs}
use Rattle.scheme.specs.Layout.{total, in_whole_block, in_crypt_run, is_ciphered, marks, mask, restart_mask, count}
use Rattle.modes_spec.specs.Modes.{Cipher, Sized}
use Rattle.scheme.proofs.Pieces.{cond_law, held_after, Added, feed_adds, feed_position}
use Rattle.scheme.proofs.Agreement.{drop_head, drop_tail}
use Rattle.scheme.specs.Machine.{free, State, Stepped, mode_of, chained, ciphered_step, step, feed, feed_sample}
use Rattle.scheme.specs.Held.{Place, Clear, Inside, place, in_place, in_block, held_at}
use Rattle.scheme.proofs.Positions.{place_law, marks_at, held_at_is}
use Rattle.scheme.specs.declared.Mode.{Mode}
use Rattle.scheme.specs.declared.Mode.TheVariants.{Counter, Chain}
use Rattle.scheme.proofs.Passes.{feed_joined}
use Rattle.scheme.specs.Walk.{left, SampleAsks}

-- bytes of a block that isn't complete are held
hold_feed : (E D : Cipher) (d : Direction) (iv : List ℕ) (M F : List Bool) (p : ℕ) (c h zs : List ℕ) (ns : List Bool)
    → length h + length zs ≤ 15 → drop p M ≡ replicate (length zs) true ++ ns
    → feed E D d Chain iv M F (record { position = p; block = c; held = h }) zs
    ≡ record { state = record { position = p + length zs; block = c; held = h ++ zs }; released = [] }
unfolding feed step ciphered_step chained
hold_feed E D d iv M F p c h [] ns l e = rw (add-zero, append-nil)
hold_feed E D d iv M F p c h (z ∷ zs) ns l e =
    let t : drop p M ≡ true ∷ (replicate (length zs) true ++ ns) = e in
    let s : p + suc (length zs) ≡ suc p + length zs = omega arith in
    rw (
      drop_head M p true _ t,
      ne_eqb (length h) 15 (omega arith),
      s,
      hold_feed E D d iv M F (suc p) c (h ++ (z ∷ [])) zs ns (simp length-append (omega arith)) (drop_tail M p true _ t),
    )
    (rw append_assoc)

-- marks that hold from q on, t of them
marked_at : (l : List Bool) (q : ℕ) → get_or l q false ≡ true → q < length l
marked_at l q e = go (ltb q (length l)) refl
  where
    go : (b : Bool) → ltb q (length l) ≡ b → q < length l
    go true h = ltb-true q (length l) h
    go false h =
        absurd
        (let f : false ≡ true = sym (get_or-eq_default l false (ltb-false q (length l) h)) ∙ e in
        let z : ◌≡◌ {A = ℕ} 0 1 = cc in
        omega arith)

run_true : (l : List Bool) (t q : ℕ) → ((i : ℕ) → i < t → get_or l (q + i) false ≡ true)
    → drop q l ≡ replicate t true ++ drop (q + t) l
run_true l zero q h = rw add-zero
run_true l (suc t) q h =
    let e : get_or l q false ≡ true = rw add-zero at (h 0 (omega arith)) in
    let s : q + suc t ≡ suc q + t = omega arith in
    rw (s, drop-cons l q false (marked_at l q e), e)
    (ap (λ (m : List Bool). true ∷ m)
    (run_true l t (suc q) (λ i k. (let j : suc q + i ≡ q + suc i = omega arith in rw j (h (suc i) (omega arith))))))

-- back in the same range
module _ (e : Entry) (es : List Entry) (y : ℕ) (u : e.clear ≤ y) where
  place_in : y - e.clear < e.protected → place (e ∷ es) y ≡ Inside e.protected (y - e.clear)
  unfolding place
  place_in v = rw (le-ltb y e.clear u, lt-ltb (y - e.clear) e.protected v)

  place-behind : e.protected ≤ y - e.clear → place (e ∷ es) y ≡ place es (y - e.clear - e.protected)
  unfolding place
  place-behind v = rw (le-ltb y e.clear u, le-ltb (y - e.clear) e.protected v)

pub record Backed (es : List Entry) (x n o j : ℕ) : Type 0 where
  pub there : place es (x - j) ≡ Inside n (o - j)
  pub low : o ≤ x

back_in : (e : Entry) (es : List Entry) (x n o j : ℕ) → j ≤ o → e.clear ≤ x → x - e.clear < e.protected → e.protected ≡ n
    → x - e.clear ≡ o → Backed (e ∷ es) x n o j
back_in e es x n o j l u v en eo =
    let q : x - j - e.clear ≡ o - j = omega arith in
    record { there = place_in e es (x - j) (omega arith) (omega arith) ∙ rw (en, q); low = omega arith }

back-behind : (e : Entry) (es : List Entry) (x n o j : ℕ) → j ≤ o → e.clear ≤ x → e.protected ≤ x - e.clear
    → Backed es (x - e.clear - e.protected) n o j → Backed (e ∷ es) x n o j
back-behind e es x n o j l u v r =
    let q : x - j - e.clear - e.protected ≡ x - e.clear - e.protected - j = omega arith in
    record {
      there = place-behind e es (x - j) (omega (arith, r.low)) (omega (arith, r.low)) ∙ rw q r.there;
      low = omega (arith, r.low);
    }

range_of : {n o m p : ℕ} → Inside m p ≡ Inside n o → m ≡ n
range_of h = cc

offset_of : {n o m p : ℕ} → Inside m p ≡ Inside n o → p ≡ o
offset_of h = cc

outside : {n o : ℕ} {A : Type 0} → Clear ≡ Inside n o → A
outside h = absurd (let z : ◌≡◌ {A = ℕ} 0 1 = cc in omega arith)

clear_none : (x : ℕ) → place [] x ≡ Clear
unfolding place
clear_none x = refl

back : (es : List Entry) (x n o j : ℕ) → j ≤ o → place es x ≡ Inside n o → Backed es x n o j
back [] x n o j l = λ h. outside (sym (clear_none x) ∙ h)
back (e ∷ es) x n o j l =
    place_law (λ (p : Place). p ≡ Inside n o → Backed (e ∷ es) x n o j) e es x
    (λ u h. outside h)
    (λ u v h. back_in e es x n o j l u v (range_of h) (offset_of h))
    (λ u v h. back-behind e es x n o j l u v (back es (x - e.clear - e.protected) n o j l h))

-- in a chain scheme all bytes of a block go with the block
same_block : (s : Scheme) (pattern : Pattern) (n o y : ℕ) → mode_of s ≡ Chain → y / 16 ≡ o / 16
    → is_ciphered s pattern n y ≡ is_ciphered s pattern n o
unfolding mode_of is_ciphered in_whole_block in_crypt_run
same_block Cenc pattern n o y k e = absurd (let z : ◌≡◌ {A = ℕ} 0 1 = cc in omega arith)
same_block Cbc1 pattern n o y k e = rw e
same_block Cens pattern n o y k e = absurd (let z : ◌≡◌ {A = ℕ} 0 1 = cc in omega arith)
same_block Cbcs pattern n o y k e = rw e

-- t bytes are held at x: they lie before it, all of them ciphered, and nothing is held where they begin
pub record Back (s : Scheme) (pattern : Pattern) (es : List Entry) (x t : ℕ) : Type 0 where
  pub few : t ≤ 15
  pub low : t ≤ x
  pub marked : drop (x - t) (mask s pattern es) ≡ replicate t true ++ drop x (mask s pattern es)
  pub start : in_block pattern s (place es (x - t)) ≡ 0

module _ (s : Scheme) (pattern : Pattern) (k : mode_of s ≡ Chain) (es : List Entry) (x : ℕ) where
  nothing : in_block pattern s (place es x) ≡ 0 → Back s pattern es x (in_block pattern s (place es x))
  nothing e =
      let z : x - 0 ≡ x = omega arith in rw e (record { few = omega arith; low = omega arith; marked = rw z; start = rw z e })

  inside : (n o : ℕ) → place es x ≡ Inside n o → (b : Bool) → is_ciphered s pattern n o ≡ b
      → Back s pattern es x (in_block pattern s (place es x))
  unfolding in_block in_place mask
  inside n o e false f = nothing (rw (e, f))
  inside n o e true f =
      let t : ℕ = o % 16 in
      let r = back es x n o t (omega arith) e in
      let h : in_block pattern s (place es x) ≡ t = rw (e, f) in
      let q : x - t + t ≡ x = omega (arith, r.low) in
      rw h
      (record {
        few = omega arith;
        low = omega (arith, r.low);
        marked = rw q at
            (run_true (marks (is_ciphered s pattern) es) t (x - t)
            (λ i l.
            let w : x - t + i ≡ x - (t - i) = omega (arith, r.low) in
            let y = back es x n o (t - i) (omega arith) e in
            marks_at (is_ciphered s pattern) es (x - t + i)
            ∙ rw (w, y.there) (same_block s pattern n o (o - (t - i)) k (omega arith) ∙ f)));
        start =
            let g : (o - t) % 16 ≡ 0 = omega arith in
            rw (r.there, g) (cond_law (λ (y : ℕ). y ≡ 0) (is_ciphered s pattern n (o - t)) (λ q. refl) (λ q. refl));
      })

  at_place : (p : Place) → place es x ≡ p → Back s pattern es x (in_block pattern s (place es x))
  unfolding in_block in_place
  at_place Clear e = nothing (rw e)
  at_place (Inside n o) e = inside n o e (is_ciphered s pattern n o) refl

  pub held_back : Back s pattern es x (in_block pattern s (place es x))
  held_back = at_place (place es x) refl

-- ---- a piece of a sample, as one part that nothing is held around

pub held_counter : (pattern : Pattern) (s : Scheme) (es : List Entry) (x : ℕ) → mode_of s ≡ Counter → held_at pattern es s x ≡ 0
unfolding held_at mode_of
held_counter pattern Cenc es x e = refl
held_counter pattern Cbc1 es x e = absurd (let z : ◌≡◌ {A = ℕ} 0 1 = cc in omega arith)
held_counter pattern Cens es x e = refl
held_counter pattern Cbcs es x e = absurd (let z : ◌≡◌ {A = ℕ} 0 1 = cc in omega arith)

held_chain : (pattern : Pattern) (s : Scheme) (es : List Entry) (x : ℕ) → mode_of s ≡ Chain
    → held_at pattern es s x ≡ in_block pattern s (place es x)
unfolding held_at mode_of
held_chain pattern Cenc es x e = absurd (let z : ◌≡◌ {A = ℕ} 0 1 = cc in omega arith)
held_chain pattern Cbc1 es x e = refl
held_chain pattern Cens es x e = absurd (let z : ◌≡◌ {A = ℕ} 0 1 = cc in omega arith)
held_chain pattern Cbcs es x e = refl

empty : (l : List ℕ) → length l ≡ 0 → l ≡ []
empty [] e = refl
empty (x ∷ l) e = absurd (omega arith)

-- of a chain scheme
module _ (s : Scheme) (pattern : Pattern) (k : mode_of s ≡ Chain) (es : List Entry) (x : ℕ) where
  pub held_marks : Back s pattern es x (held_at pattern es s x)
  held_marks = rw (held_chain pattern s es x k) (held_back s pattern k es x)

module _ (E D : Cipher) (sE : Sized E) (sD : Sized D) (d : Direction) (s : Scheme) (pattern : Pattern) (iv : List ℕ)
    (es : List Entry) (p : ℕ) (c h zs : List ℕ)
    (n : length h ≡ held_at pattern es s p) where
  abbrev H : ℕ → ℕ
  H x = held_at pattern es s x

  abbrev all : List ℕ
  all = h ++ zs

  abbrev end : ℕ
  end = p + length zs

  -- how many bytes are due
  abbrev due : ℕ
  due = length all - H end

  abbrev from : State
  from = record { position = p; block = c; held = h }

  -- no more bytes are held after the piece than there are
  pub held_few : H end ≤ length all
  unfolding feed_sample
  held_few =
      let M : List Bool = mask s pattern es in
      let a : Added (mode_of s) M (length h + length zs) (feed E D d (mode_of s) iv M (restart_mask s es) from zs) =
      feed_adds E D sE sD d iv M (restart_mask s es) (mode_of s) from zs (n ∙ sym (held_at_is pattern es s p)) in
      let e : H end ≡ length (feed E D d (mode_of s) iv M (restart_mask s es) from zs).state.held =
      sym (held_at_is pattern es s end)
      ∙ ap (λ (y : ℕ). held_after (mode_of s) (count (take y M)))
      (sym (feed_position E D d (mode_of s) iv M (restart_mask s es) from zs))
      ∙ sym a.sound in
      simp length-append (omega (arith, a.sum))

  abbrev Done : List ℕ → List ℕ → Type 0
  Done c' ys =
      feed_sample E D d s pattern iv es (free (p - H p) c) (take due all) ≡ left (p - H p + length (take due all)) c' ys
      → feed_sample E D d s pattern iv es from zs
      ≡ record { state = record { position = end; block = c'; held = drop due all }; released = ys }

  size_all : length all ≡ H p + length zs
  size_all = simp length-append (omega arith)

  size_due : length (take due all) ≡ due
  size_due = length-take-le due all (omega arith)

  size_held : length (drop due all) ≡ H end
  size_held = length-drop due all ∙ omega (arith, held_few)

  module _ (k : mode_of s ≡ Chain) where
    abbrev M : List Bool
    M = mask s pattern es

    abbrev fed_by : State → List ℕ → Stepped
    fed_by t xs = feed E D d Chain iv M (restart_mask s es) t xs

    first : fed_by (free (p - H p) c) h ≡ record { state = from; released = [] }
    first =
        let b : Back s pattern es p (H p) = held_marks s pattern k es p in
        let q : p - H p + length h ≡ p = omega (arith, b.low) in
        rw q at (hold_feed E D d iv M (restart_mask s es) (p - H p) c [] h (drop p M) (omega (arith, b.few)) (rw n b.marked))

    joined : fed_by (free (p - H p) c) all ≡ fed_by from zs
    joined = feed_joined E D d Chain iv M (restart_mask s es) (free (p - H p) c) h zs ∙ rw first

    last : (c' : List ℕ)
        → fed_by (free (p - H p + length (take due all)) c') (drop due all)
        ≡ record { state = record { position = end; block = c'; held = drop due all }; released = [] }
    last c' =
        let b : Back s pattern es p (H p) = held_marks s pattern k es p in
        let e : Back s pattern es end (H end) = held_marks s pattern k es end in
        let q : p - H p + length (take due all) ≡ end - H end = rw size_due (omega (arith, b.low, size_all, held_few)) in
        let r : end - H end + length (drop due all) ≡ end = rw size_held (omega (arith, e.low)) in
        rw q
        (rw r at (hold_feed E D d iv M (restart_mask s es) (end - H end) c' [] (drop due all) (drop end M)
        (rw size_held (omega (arith, e.few))) (rw size_held e.marked)))

    chain_says : (c' ys : List ℕ) → fed_by (free (p - H p) c) (take due all) ≡ left (p - H p + length (take due all)) c' ys
        → fed_by from zs ≡ record { state = record { position = end; block = c'; held = drop due all }; released = ys }
    chain_says c' ys fed =
        sym joined ∙ ap (fed_by (free (p - H p) c)) (sym (take-append-drop due all))
        ∙ feed_joined E D d Chain iv M (restart_mask s es) (free (p - H p) c) (take due all) (drop due all)
        ∙ rw (fed, last c')
        (ap (λ (l : List ℕ). record { state = record { position = end; block = c'; held = drop due all }; released = l })
        (append-nil ys))

  by_chain : mode_of s ≡ Chain → (c' ys : List ℕ) → Done c' ys
  unfolding feed_sample
  by_chain k c' ys fed = rw k (chain_says k c' ys (rw k at fed))

  by_counter : mode_of s ≡ Counter → (c' ys : List ℕ) → Done c' ys
  by_counter k c' ys fed =
      let z : (x : ℕ) → H x ≡ 0 = λ x. held_counter pattern s es x k in
      let e : h ≡ [] = empty h (n ∙ z p) in
      let a : p - H p ≡ p = omega (arith, z p) in
      let l : length all ≤ due = omega (arith, z end) in
      let t : take due all ≡ zs = take_all due all l ∙ ap (λ (y : List ℕ). y ++ zs) e in
      let r : drop due all ≡ [] = drop_of_length-le all l in
      rw (r, e) (rw (t, a) at fed)

  -- what the machine makes of the held bytes and the piece up to what is due, it makes of the piece after them
  pub piece_says : (c' ys : List ℕ) → Done c' ys
  piece_says = go (mode_of s) refl
    where
      go : (f : Mode) → mode_of s ≡ f → (c' ys : List ℕ) → Done c' ys
      go Counter k = by_counter k
      go Chain k = by_chain k

  -- where the part lies that the held bytes and the piece make: nothing is held where it begins and where it ends
  begins : (f : Mode) → mode_of s ≡ f → (x : ℕ) → (H x ≤ x) × (H (x - H x) ≡ 0)
  begins Counter k x =
      let z : H x ≡ 0 = held_counter pattern s es x k in (omega arith, held_counter pattern s es (x - H x) k)
  begins Chain k x =
      let b : Back s pattern es x (H x) = held_marks s pattern k es x in
      (b.low, held_chain pattern s es (x - H x) k ∙ b.start)

  pub piece_asks : end ≤ total es → (u : ℕ) → count (take (p - H p) (mask s pattern es)) % 16 ≡ u
      → SampleAsks s pattern es (p - H p) (length (take due all)) u
  piece_asks l u r =
      let a = begins (mode_of s) refl p in
      let b = begins (mode_of s) refl end in
      let e : p - H p + length (take due all) ≡ end - H end = rw size_due (omega (arith, a.0, b.0, size_all, held_few)) in
      record { within = omega arith; from = a.1; to = rw e b.1; rank = r }

-- fewer bytes are held than a block has
pub held_small : (pattern : Pattern) (s : Scheme) (es : List Entry) (x : ℕ) → held_at pattern es s x ≤ 15
held_small pattern s es x = go (mode_of s) refl
  where
    go : (f : Mode) → mode_of s ≡ f → held_at pattern es s x ≤ 15
    go Counter k = omega (arith, held_counter pattern s es x k)
    go Chain k = (held_marks s pattern k es x).few

-- and none that came after the position
pub held_low : (pattern : Pattern) (s : Scheme) (es : List Entry) (x : ℕ) → held_at pattern es s x ≤ x
held_low pattern s es x = go (mode_of s) refl
  where
    go : (f : Mode) → mode_of s ≡ f → held_at pattern es s x ≤ x
    go Counter k = omega (arith, held_counter pattern s es x k)
    go Chain k = (held_marks s pattern k es x).low
