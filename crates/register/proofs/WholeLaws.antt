-- The number for the call as a whole, return by return: the tests passed so far say which row is the first that applies.
-- Assumes nothing.
use mathlib.Core.Path.{◌≡◌, refl, sym, ap, ap₂, ◌∙◌, subst}
use mathlib.Core.Logic.{◌≢◌, ◌⊎◌, inl, inr, ◌↔◌}
use mathlib.Core.Bool.{Bool, true, false, not, ◌||◌, cond, true≢false}
use mathlib.Core.List.{List}
use Prim.Native.Nat.{ℕ, ◌*◌, ◌/◌, ◌%◌, ◌≤◌, ◌<◌}
use native.Mathlib.Nat.{mul-le-mul_right}
use native.Mathlib.Omega.{arith}
use mir.Val.{Fits}
use mir.Syntax.{w64}
use lib.Dec.{eqb, leb, ltb}
use lib.ListN.{length}
use borrow.Author.Tests.{eq-eqb, ne_eqb, le-leb, lt-leb, lt-ltb, le-ltb, eqb-true, eqb-false, leb-true, leb-false, not-true, not-false}
use borrow.Author.Tests.{ltb-true, ltb-false}
use Rattle.numbers.specs.Numbers.{wrong_length_number, place_number, field_number, gapped_number, short_number, length_number}
use Rattle.sizes.specs.Sizes.{nodes, clusters}
use Rattle.handle.specs.declared.Handle.{Handle}
use Rattle.handle.specs.Selectors.{gapped}
use Rattle.handle.specs.Handles.{node_of, width_of, no_such_place, decoded}
use Rattle.handle.specs.Widths.{bits_of}
use Rattle.register.specs.Registers.{handle_bytes, whole_number}
use Rattle.register.specs.Answers.{NoPlace, Clear, WholeInWords}
use Rattle.register.specs.inner.Work.{Standing}
use Rattle.register.proofs.KeptLaws.{laid_decoded}

abbrev chosen : Bool → Bool → Bool → Bool → Bool → Bool → ℕ
chosen a b c d e g =
    cond a wrong_length_number
    (cond b place_number (cond c field_number (cond d gapped_number (cond e length_number (cond g short_number 0)))))

module _ (b : List ℕ) (beyond : Bool) (size room each : ℕ) where
  abbrev place : Bool
  place = no_such_place (decoded b)

  abbrev gap : Bool
  gap = gapped (width_of (decoded b)) (decoded b).selector

  abbrev odd : Bool
  odd = not (eqb (size % 2) 0) || ltb 255 (size / 2)

  abbrev short : Bool
  short = ltb room (size / 2 * each)

  whole_is : (a : Bool) → not (eqb (length b) handle_bytes) ≡ a
      → whole_number b beyond size room each ≡ chosen a place beyond gap odd short
  unfolding whole_number
  whole_is a q = ap (λ (a : Bool). chosen a place beyond gap odd short) q

  pub whole_length : (length b ≡ 23 → ⊥) → wrong_length_number ≡ whole_number b beyond size room each
  whole_length z = sym (whole_is true (ap not (ne_eqb (length b) 23 z)))

  module _ (l : length b ≡ 23) (h : Handle) (eh : h ≡ decoded b) (v : ℕ) (ev : v ≡ node_of h) where
    of_place : (p : Bool) → place ≡ p → whole_number b beyond size room each ≡ chosen false p beyond gap odd short
    of_place p q =
        whole_is false (ap not (eq-eqb (length b) 23 l))
        ∙ ap (λ (p : Bool). chosen false p beyond gap odd short) q

    node : v ≡ node_of (decoded b)
    node = ev ∙ ap node_of eh

    pub whole_node : 4 ≤ v → place_number ≡ whole_number b beyond size room each
    whole_node t =
        sym (of_place true (ap (λ (x : Bool). x || leb clusters (decoded b).local)
        (le-leb nodes (node_of (decoded b)) (let q = node in omega arith))))

    module _ (n : v < 4) where
      here : (p : Bool) → leb clusters (decoded b).local ≡ p → place ≡ p
      here p q =
          ap₂ (λ (x y : Bool). x || y) (lt-leb nodes (node_of (decoded b)) (let r = node in omega arith)) q

      pub whole_local : 8 ≤ h.local → place_number ≡ whole_number b beyond size room each
      whole_local t =
          sym (of_place true (here true (le-leb clusters (decoded b).local
          (let r = ap (λ (h : Handle). h.local) eh in omega arith))))

      module _ (c : h.local < 8) where
        of_field : (x : Bool) → beyond ≡ x → whole_number b beyond size room each ≡ chosen false false x gap odd short
        of_field x q =
            of_place false (here false (lt-leb clusters (decoded b).local
            (let r = ap (λ (h : Handle). h.local) eh in omega arith)))
            ∙ ap (λ (x : Bool). chosen false false x gap odd short) q

        pub whole_field : beyond ≡ true → field_number ≡ whole_number b beyond size room each
        whole_field q = sym (of_field true q)

        module _ (f : beyond ≡ false) (g : Bool) (eg : g ≡ gapped (width_of h) h.selector) where
          of_gap : (x : Bool) → g ≡ x → whole_number b beyond size room each ≡ chosen false false false x odd short
          of_gap x q =
              of_field false f
              ∙ ap (λ (x : Bool). chosen false false false x odd short)
              (sym (ap (λ (h : Handle). gapped (width_of h) h.selector) eh) ∙ sym eg ∙ q)

          pub whole_gapped : g ≡ true → gapped_number ≡ whole_number b beyond size room each
          whole_gapped q = sym (of_gap true q)

          module _ (u : g ≡ false) where
            of_odd : (x : Bool) → odd ≡ x → whole_number b beyond size room each ≡ chosen false false false false x short
            of_odd x q = of_gap false u ∙ ap (λ (x : Bool). chosen false false false false x short) q

            pub whole_odd : (size % 2 ≡ 0 → ⊥) → length_number ≡ whole_number b beyond size room each
            whole_odd z =
                sym (of_odd true (ap (λ (x : Bool). not x || ltb 255 (size / 2)) (ne_eqb (size % 2) 0 z)))

            module _ (even : size % 2 ≡ 0) where
              many : (x : Bool) → ltb 255 (size / 2) ≡ x → odd ≡ x
              many x q = ap₂ (λ (x y : Bool). not x || y) (eq-eqb (size % 2) 0 even) q

              pub whole_many : 255 < size / 2 → length_number ≡ whole_number b beyond size room each
              whole_many t = sym (of_odd true (many true (lt-ltb 255 (size / 2) t)))

              module _ (few : size / 2 ≤ 255) where
                of_short : (x : Bool) → short ≡ x
                    → whole_number b beyond size room each ≡ chosen false false false false false x
                of_short x q =
                    of_odd false (many false (le-ltb 255 (size / 2) few))
                    ∙ ap (λ (x : Bool). chosen false false false false false x) q

                pub whole_short : room < size / 2 * each → short_number ≡ whole_number b beyond size room each
                whole_short t = sym (of_short true (lt-ltb room (size / 2 * each) t))

                pub whole_none : size / 2 * each ≤ room → 0 ≡ whole_number b beyond size room each
                whole_none t = sym (of_short false (le-ltb room (size / 2 * each) t))

pub times_fits : (n each : ℕ) → n ≤ 255 → each ≤ 23 → Fits w64 (n * each)
times_fits n each a b =
    let l = mul-le-mul_right each a in
    record { fits = omega arith }

-- ---- what a call that goes on has

abbrev AllOff : Bool → Bool → Bool → Bool → Bool → Bool → Type 0
AllOff a b c d e g = (a ≡ false) × (b ≡ false) × (c ≡ false) × (d ≡ false) × (e ≡ false) × (g ≡ false)

chosen_none : (a b c d e g : Bool) → chosen a b c d e g ≡ 0 → AllOff a b c d e g
chosen_none true b c d e g q = absurd (omega arith)
chosen_none false true c d e g q = absurd (omega arith)
chosen_none false false true d e g q = absurd (omega arith)
chosen_none false false false true e g q = absurd (omega arith)
chosen_none false false false false true g q = absurd (omega arith)
chosen_none false false false false false true q = absurd (omega arith)
chosen_none false false false false false false q = (refl, refl, refl, refl, refl, refl)

chosen_off : (a b c d e g : Bool) → AllOff a b c d e g → chosen a b c d e g ≡ 0
chosen_off a b c d e g (p, q, r, s, t, u) = λ j. chosen (p j) (q j) (r j) (s j) (t j) (u j)

or_left : (a b : Bool) → (a || b) ≡ false → a ≡ false
or_left true b q = absurd (true≢false q)
or_left false b q = refl

or_right : (a b : Bool) → (a || b) ≡ false → b ≡ false
or_right true b q = absurd (true≢false q)
or_right false b q = q

or_off : (a b : Bool) → a ≡ false → b ≡ false → (a || b) ≡ false
or_off a b p q = λ j. p j || q j

-- the width of a handle of 23 bytes
pub wide : (b : List ℕ) → length b ≡ 23 → width_of (decoded b) ≡ 8
wide b l = ap bits_of (laid_decoded b l).wide

module _ (b : List ℕ) (beyond : Bool) (size room each : ℕ) where
  abbrev short_of : Bool
  short_of = not (eqb (length b) handle_bytes)

  clear_out : whole_number b beyond size room each ≡ 0 → Clear b size room each × (beyond ≡ false)
  clear_out z = go (chosen_none short_of (place b beyond size room each) beyond (gap b beyond size room each)
      (odd b beyond size room each) (short b beyond size room each)
      (sym (whole_is b beyond size room each short_of refl) ∙ z))
    where
      go : AllOff short_of (place b beyond size room each) beyond (gap b beyond size room each)
          (odd b beyond size room each) (short b beyond size room each)
          → Clear b size room each × (beyond ≡ false)
      go (p, q, r, s, t, u) = (
        record {
          bytes = long;
          node =
              let l = leb-false nodes (node_of (decoded b)) (or_left (leb nodes (node_of (decoded b))) (leb clusters (decoded b).local) q) in
              omega arith;
          local =
              let l = leb-false clusters (decoded b).local (or_right (leb nodes (node_of (decoded b))) (leb clusters (decoded b).local) q) in
              omega arith;
          ungapped = ap (λ (w : ℕ). gapped w (decoded b).selector) (sym (wide b long)) ∙ s;
          whole =
              eqb-true (size % 2) 0
              (not-false (eqb (size % 2) 0) (or_left (not (eqb (size % 2) 0)) (ltb 255 (size / 2)) t));
          few = ltb-false 255 (size / 2) (or_right (not (eqb (size % 2) 0)) (ltb 255 (size / 2)) t);
          long = ltb-false room (size / 2 * each) u;
        },
        r,
      )
        where
          long : length b ≡ 23
          long = eqb-true (length b) 23 (not-false (eqb (length b) 23) p)

  pub clear_in : Clear b size room each → beyond ≡ false → whole_number b beyond size room each ≡ 0
  clear_in c r =
      whole_is b beyond size room each short_of refl
      ∙ chosen_off short_of (place b beyond size room each) beyond (gap b beyond size room each)
      (odd b beyond size room each) (short b beyond size room each) (
        ap not (eq-eqb (length b) 23 c.bytes),
        or_off (leb nodes (node_of (decoded b))) (leb clusters (decoded b).local)
            (lt-leb nodes (node_of (decoded b)) (let l = c.node in omega arith))
            (lt-leb clusters (decoded b).local (let l = c.local in omega arith)),
        r,
        ap (λ (w : ℕ). gapped w (decoded b).selector) (wide b c.bytes) ∙ c.ungapped,
        or_off (not (eqb (size % 2) 0)) (ltb 255 (size / 2)) (ap not (eq-eqb (size % 2) 0 c.whole))
            (le-ltb 255 (size / 2) c.few),
        le-ltb room (size / 2 * each) c.long,
      )

  module _ (z : 0 ≡ whole_number b beyond size room each) where
    pub going : Clear b size room each × (beyond ≡ false)
    going = clear_out (sym z)

    -- the handle supplied stands
    pub going_stands : (h : Handle) → h ≡ decoded b → Standing h
    going_stands h eh =
        let c = going.0 in
        subst Standing (sym eh)
        (record {
          wide = ne_eqb (width_of (decoded b)) 0 (let v = wide b c.bytes in λ y. omega arith);
          here =
              or_off (leb nodes (node_of (decoded b))) (leb clusters (decoded b).local)
              (lt-leb nodes (node_of (decoded b)) (let l = c.node in omega arith))
              (lt-leb clusters (decoded b).local (let l = c.local in omega arith));
          ungapped = ap (λ (w : ℕ). gapped w (decoded b).selector) (wide b c.bytes) ∙ c.ungapped;
        })

-- ---- the numbers for the whole in words

after_25 : (b c d e g : Bool) → chosen false b c d e g ≡ 25 → ⊥
after_25 true c d e g q = omega arith
after_25 false true d e g q = omega arith
after_25 false false true e g q = omega arith
after_25 false false false true g q = omega arith
after_25 false false false false true q = omega arith
after_25 false false false false false q = omega arith

after_2 : (c d e g : Bool) → chosen false false c d e g ≡ 2 → ⊥
after_2 true d e g q = omega arith
after_2 false true e g q = omega arith
after_2 false false true g q = omega arith
after_2 false false false true q = omega arith
after_2 false false false false q = omega arith

after_3 : (d e g : Bool) → chosen false false false d e g ≡ 3 → ⊥
after_3 true e g q = omega arith
after_3 false true g q = omega arith
after_3 false false true q = omega arith
after_3 false false false q = omega arith

after_4 : (e g : Bool) → chosen false false false false e g ≡ 4 → ⊥
after_4 true g q = omega arith
after_4 false true q = omega arith
after_4 false false q = omega arith

after_18 : (g : Bool) → chosen false false false false false g ≡ 18 → ⊥
after_18 true q = omega arith
after_18 false q = omega arith

-- a number that a test gives, and nothing behind the test, is told just where what the test tells holds
by_test : (w n : ℕ) (P : Type 0) (v : Bool → ℕ) (x : Bool) → w ≡ v x → v true ≡ n → (v false ≡ n → ⊥)
    → (x ≡ true → P) → (P → x ≡ true) → (w ≡ n) ↔ P
by_test w n P v x q yes-n no-n out inside = (there x refl, λ p. q ∙ ap v (inside p) ∙ yes-n)
  where
    there : (y : Bool) → x ≡ y → w ≡ n → P
    there true e z = out e
    there false e z = absurd (no-n (sym (q ∙ ap v e) ∙ z))

or_in : (a b : Bool) → (a ≡ true) ⊎ (b ≡ true) → (a || b) ≡ true
or_in true b s = refl
or_in false b (inl p) = absurd (true≢false (sym p))
or_in false b (inr p) = p

or_out : (a b : Bool) → (a || b) ≡ true → (a ≡ true) ⊎ (b ≡ true)
or_out true b q = inl refl
or_out false b q = inr q

not_in : (a : Bool) → a ≡ false → not a ≡ true
not_in a q = ap not q

module _ (b : List ℕ) (t : Bool) (size room each : ℕ) where
  abbrev w : ℕ
  w = whole_number b t size room each

  abbrev p : Bool
  p = place b t size room each

  abbrev g : Bool
  g = gap b t size room each

  abbrev o : Bool
  o = odd b t size room each

  abbrev s : Bool
  s = short b t size room each

  place_out : p ≡ true → NoPlace b
  place_out q = go (or_out (leb nodes (node_of (decoded b))) (leb clusters (decoded b).local) q)
    where
      go : (leb nodes (node_of (decoded b)) ≡ true) ⊎ (leb clusters (decoded b).local ≡ true) → NoPlace b
      go (inl r) = inl (let l = leb-true nodes (node_of (decoded b)) r in omega arith)
      go (inr r) = inr (let l = leb-true clusters (decoded b).local r in omega arith)

  place_in : NoPlace b → p ≡ true
  place_in n = or_in (leb nodes (node_of (decoded b))) (leb clusters (decoded b).local) (go n)
    where
      go : NoPlace b → (leb nodes (node_of (decoded b)) ≡ true) ⊎ (leb clusters (decoded b).local ≡ true)
      go (inl l) = inl (le-leb nodes (node_of (decoded b)) (omega arith))
      go (inr l) = inr (le-leb clusters (decoded b).local (omega arith))

  here_off : ¬ NoPlace b → p ≡ false
  here_off n = go p refl
    where
      go : (x : Bool) → p ≡ x → p ≡ false
      go true q = absurd (n (place_out q))
      go false q = q

  odd_out : o ≡ true → (size % 2 ≢ 0) ⊎ (255 < size / 2)
  odd_out q = go (or_out (not (eqb (size % 2) 0)) (ltb 255 (size / 2)) q)
    where
      go : (not (eqb (size % 2) 0) ≡ true) ⊎ (ltb 255 (size / 2) ≡ true) → (size % 2 ≢ 0) ⊎ (255 < size / 2)
      go (inl r) = inl (eqb-false (size % 2) 0 (not-true (eqb (size % 2) 0) r))
      go (inr r) = inr (ltb-true 255 (size / 2) r)

  odd_in : (size % 2 ≢ 0) ⊎ (255 < size / 2) → o ≡ true
  odd_in n = or_in (not (eqb (size % 2) 0)) (ltb 255 (size / 2)) (go n)
    where
      go : (size % 2 ≢ 0) ⊎ (255 < size / 2) → (not (eqb (size % 2) 0) ≡ true) ⊎ (ltb 255 (size / 2) ≡ true)
      go (inl z) = inl (not_in (eqb (size % 2) 0) (ne_eqb (size % 2) 0 z))
      go (inr l) = inr (lt-ltb 255 (size / 2) l)

  -- the number once the tests before are off
  at_place : length b ≡ 23 → w ≡ chosen false p t g o s
  at_place l = whole_is b t size room each false (ap not (eq-eqb (length b) 23 l))

  at_segment : length b ≡ 23 → ¬ NoPlace b → w ≡ chosen false false t g o s
  at_segment l n = at_place l ∙ ap (λ (x : Bool). chosen false x t g o s) (here_off n)

  at_gap : length b ≡ 23 → ¬ NoPlace b → t ≡ false → w ≡ chosen false false false g o s
  at_gap l n q = at_segment l n ∙ ap (λ (x : Bool). chosen false false x g o s) q

  wide_gap : length b ≡ 23 → g ≡ gapped 8 (decoded b).selector
  wide_gap l = ap (λ (v : ℕ). gapped v (decoded b).selector) (wide b l)

  at_entries : length b ≡ 23 → ¬ NoPlace b → t ≡ false → gapped 8 (decoded b).selector ≡ false
      → w ≡ chosen false false false false o s
  at_entries l n q u = at_gap l n q ∙ ap (λ (x : Bool). chosen false false false x o s) (wide_gap l ∙ u)

  at_buffer : length b ≡ 23 → ¬ NoPlace b → t ≡ false → gapped 8 (decoded b).selector ≡ false → size % 2 ≡ 0 → size / 2 ≤ 255
      → w ≡ chosen false false false false false s
  at_buffer l n q u even few =
      at_entries l n q u
      ∙ ap (λ (x : Bool). chosen false false false false x s)
      (or_off (not (eqb (size % 2) 0)) (ltb 255 (size / 2)) (ap not (eq-eqb (size % 2) 0 even)) (le-ltb 255 (size / 2) few))

  pub whole_in_words : WholeInWords b t size room each
  whole_in_words =
      record {
        bytes =
            by_test w 25 (length b ≢ 23) (λ x. chosen x p t g o s) (not (eqb (length b) 23))
            (whole_is b t size room each (not (eqb (length b) 23)) refl) refl (after_25 p t g o s)
            (λ q. eqb-false (length b) 23 (not-true (eqb (length b) 23) q)) (λ z. not_in (eqb (length b) 23) (ne_eqb (length b) 23 z));
        place = λ l.
            by_test w 2 (NoPlace b) (λ x. chosen false x t g o s) p (at_place l) refl (after_2 t g o s) place_out place_in;
        segment = λ l n.
            by_test w 3 (t ≡ true) (λ x. chosen false false x g o s) t (at_segment l n) refl (after_3 g o s) (λ q. q) (λ q. q);
        gap = λ l n q.
            by_test w 4 (gapped 8 (decoded b).selector ≡ true) (λ x. chosen false false false x o s) g (at_gap l n q) refl
            (after_4 o s) (λ u. sym (wide_gap l) ∙ u) (λ u. wide_gap l ∙ u);
        entries = λ l n q u.
            by_test w 18 ((size % 2 ≢ 0) ⊎ (255 < size / 2)) (λ x. chosen false false false false x s) o (at_entries l n q u) refl
            (after_18 s) odd_out odd_in;
        buffer = λ l n q u even few.
            by_test w 15 (room < size / 2 * each) (λ x. chosen false false false false false x) s (at_buffer l n q u even few) refl
            (λ z. omega arith) (ltb-true room (size / 2 * each)) (lt-ltb room (size / 2 * each));
      }
