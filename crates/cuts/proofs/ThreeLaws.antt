-- The three ways, call by call, whatever the conversion and the passwords: each handle given is read back from its bytes, and from there
-- on all is computed but the conversion, the soundness of the copy, and that a password is itself.
-- Assumes nothing.
use mathlib.Core.Path.{◌≡◌, refl, sym, ap, ◌∙◌}
use Prim.Native.Nat.{ℕ, ◌^◌, ◌<◌}
use native.Mathlib.Omega.{arith}
use mathlib.Core.Bool.{true}
use mathlib.Core.List.{List, [], ◌∷◌, map}
use lib.ListN.{length, get_or}
use Rattle.bits.specs.Sets.{has, set_of, count}
use Rattle.bits.specs.Bytes.{bytes}
use Rattle.handle.specs.declared.Handle.{Handle}
use Rattle.handle.specs.Handles.{Weakened}
use Rattle.handle.specs.Widths.{bits_of, packed}
use Rattle.handle.specs.Selectors.{Within}
use Rattle.handle.specs.Handles.{Name, name_of, width_of, no_handle, encoded, decoded, Holdable, refusal}
use Rattle.handle.specs.Handles.{through, weaken_number, weakened, weakening, reduced}
use Rattle.handle.specs.Conversion.{SixteenBytes}
use Rattle.handle.proofs.TripLaws.{decode_encode}
use Rattle.store.specs.Records.{cluster_at, primary_of}
use Rattle.calls.specs.Calls.{Copy}
use Rattle.isolation.specs.UseLists.{Wide, of_four, of_eight, of_sixteen, records, keeping}
use Rattle.cuts.specs.cases.Replies.{by, Written, g, three, Told, ThreeTold}
use Rattle.cuts.specs.cases.Replies as L
use Rattle.cuts.proofs.ReplyLaws.{kind, of, flat, holds, from, by_tests, Opened, weakening_told, validation_told, reduction_told}

-- ---- the handles of the three ways

module _ (f : Name → List ℕ → ℕ → List ℕ) (p : List ℕ) (v : Wide) where
  abbrev t : Written
  t = L.written v

  abbrev G : List ℕ → ℕ → List ℕ
  G = g f

  abbrev pub whole : Handle
  whole = of v p (flat v ∷ flat v ∷ flat v ∷ flat v ∷ [])

  abbrev one : Handle
  one = of v (G p t.by_first) (t.by_first ∷ flat v ∷ flat v ∷ flat v ∷ [])

  abbrev one_two : Handle
  one_two = of v (G (G p t.by_first) t.then_second) (t.by_first ∷ t.then_second ∷ flat v ∷ flat v ∷ [])

  abbrev two : Handle
  two = of v (G p t.by_second) (t.by_second ∷ flat v ∷ flat v ∷ flat v ∷ [])

  abbrev two_one : Handle
  two_one = of v (G (G p t.by_second) t.then_first) (t.by_second ∷ t.then_first ∷ flat v ∷ flat v ∷ [])

  abbrev both : Handle
  both = of v (G p t.by_shared) (t.by_shared ∷ flat v ∷ flat v ∷ flat v ∷ [])

  abbrev done : Handle → ℕ → Weakened
  done h n = record { number = 0; handle = h; count = n }

  abbrev weak : Handle → ℕ → Weakened
  weak h m = weakening (bits_of (kind v)) G h m

  -- the bytes of the handles, the weakenings and the reductions: as they are computed, and as they are written out
  record Sheet : Type 0 where
    bytes : List (List ℕ)
    weakenings : List Weakened
    reductions : List Handle

  abbrev computed : Sheet
  computed =
      record {
        bytes = map encoded (whole ∷ one ∷ one_two ∷ two ∷ two_one ∷ both ∷ []);
        weakenings =
            weak whole t.first ∷ weak one t.second ∷ weak whole t.second ∷ weak two t.first ∷ weak whole t.shared ∷ [];
        reductions = map (λ (h : Handle). reduced (bits_of (kind v)) G h p) (one_two ∷ two_one ∷ both ∷ []);
      }

  abbrev expected : Sheet
  expected =
      record {
        bytes =
            by p t.whole
            ∷ by (G p t.by_first) t.one
            ∷ by (G (G p t.by_first) t.then_second) t.one_two
            ∷ by (G p t.by_second) t.two
            ∷ by (G (G p t.by_second) t.then_first) t.two_one
            ∷ by (G p t.by_shared) t.both
            ∷ [];
        weakenings =
            done one t.after_first
            ∷ done one_two t.after_both
            ∷ done two t.after_second
            ∷ done two_one t.after_both
            ∷ done both t.after_both
            ∷ [];
        reductions = both ∷ both ∷ both ∷ [];
      }

sheet : (f : Name → List ℕ → ℕ → List ℕ) (p : List ℕ) (v : Wide) → computed f p v ≡ expected f p v
unfolding encoded packed bytes has set_of count weaken_number weakened weakening reduced
sheet f p of_four = refl
sheet f p of_eight = refl
sheet f p of_sixteen = refl

low : (v : Wide)
    → let t = L.written v in
    Within (bits_of (kind v)) (t.by_first ∷ t.then_second ∷ t.by_second ∷ t.then_first ∷ t.by_shared ∷ flat v ∷ [])
low of_four = omega arith
low of_eight = omega arith
low of_sixteen = omega arith

module _ (f : Name → List ℕ → ℕ → List ℕ) (p : List ℕ) (v : Wide) where
  abbrev name : Name
  name = record { node = 3; local = 7 }

  -- each handle can be held
  pub whole_holds : length p ≡ 16 → Holdable (whole f p v)
  whole_holds l =
      let u = (low v).1.1.1.1.1.0 in holds v p (flat v) (flat v) (flat v) (flat v) l (u, (u, (u, (u, tt))))

  pub whole_bytes : encoded (whole f p v) ≡ by p (t f p v).whole
  whole_bytes = ap (λ (a : Sheet f p v). get_or a.bytes 0 []) (sheet f p v)

  pub whole_back : length p ≡ 16 → decoded (by p (t f p v).whole) ≡ (whole f p v)
  whole_back l = ap decoded (sym whole_bytes) ∙ decode_encode (whole f p v) (whole_holds l)

  module _ (sixteen : SixteenBytes f) where
    cut_holds : (q : List ℕ) (n x y : ℕ) → x < 2 ^ bits_of (kind v) → y < 2 ^ bits_of (kind v)
        → Holdable (of v ((g f) q n) (x ∷ y ∷ flat v ∷ flat v ∷ []))
    cut_holds q n x y i j =
        let u = (low v).1.1.1.1.1.0 in holds v ((g f) q n) x y (flat v) (flat v) (sixteen name q n) (i, (j, (u, (u, tt))))

    one_holds : Holdable (one f p v)
    one_holds = cut_holds p (t f p v).by_first (t f p v).by_first (flat v) (low v).0 (low v).1.1.1.1.1.0

    one_two_holds : Holdable (one_two f p v)
    one_two_holds = cut_holds ((g f) p (t f p v).by_first) (t f p v).then_second (t f p v).by_first (t f p v).then_second (low v).0 (low v).1.0

    two_holds : Holdable (two f p v)
    two_holds = cut_holds p (t f p v).by_second (t f p v).by_second (flat v) (low v).1.1.0 (low v).1.1.1.1.1.0

    two_one_holds : Holdable (two_one f p v)
    two_one_holds = cut_holds ((g f) p (t f p v).by_second) (t f p v).then_first (t f p v).by_second (t f p v).then_first (low v).1.1.0 (low v).1.1.1.0

    -- and is read back from its bytes
    pub one_two_back : decoded (by ((g f) ((g f) p (t f p v).by_first) (t f p v).then_second) (t f p v).one_two) ≡ (one_two f p v)
    one_two_back = ap (λ (a : Sheet f p v). decoded (get_or a.bytes 2 [])) (sym (sheet f p v)) ∙ decode_encode (one_two f p v) one_two_holds

    pub two_one_back : decoded (by ((g f) ((g f) p (t f p v).by_second) (t f p v).then_first) (t f p v).two_one) ≡ (two_one f p v)
    two_one_back = ap (λ (a : Sheet f p v). decoded (get_or a.bytes 4 [])) (sym (sheet f p v)) ∙ decode_encode (two_one f p v) two_one_holds

    both_holds : Holdable (both f p v)
    both_holds = cut_holds p (t f p v).by_shared (t f p v).by_shared (flat v) (low v).1.1.1.1.0 (low v).1.1.1.1.1.0

-- ---- the calls of the three ways

module _ (f : Name → List ℕ → ℕ → List ℕ) (sixteen : SixteenBytes f) (v : Wide) (r w : List ℕ) (b c d y z : ℕ) where
  abbrev on : Copy
  on = keeping v r w b c d y z

  -- the handles that are validated
  abbrev four : List ℕ → List Handle
  four p = whole f p v ∷ one_two f p v ∷ two_one f p v ∷ both f p v ∷ []

  -- what is computed of them, in a mode
  record Shown (m : ℕ) (p : List ℕ) : Type 0 where
    primary : primary_of (cluster_at (records v r w) 31) m ≡ p
    ends : map (λ (k : Handle). through (width_of k) (f (name_of k)) k.selector (from f v r w b c d y z k m)) (four p)
        ≡ map (λ (k : Handle). k.password) (four p)
    none : map (λ (k : Handle). by_tests f v r w b c d y z k m true true) (four p) ≡ 0 ∷ 0 ∷ 0 ∷ 0 ∷ []

  shown_read : Shown 1 r
  shown_read = record {
    primary = refl;
    ends =
        elim v as (λ (u : Wide).
        map (λ (k : Handle). through (width_of k) (f (name_of k)) k.selector (from f u r w b c d y z k 1)) (whole f r u ∷ one_two f r u ∷ two_one f r u ∷ both f r u ∷ [])
        ≡ map (λ (k : Handle). k.password) (whole f r u ∷ one_two f r u ∷ two_one f r u ∷ both f r u ∷ []))
        [ of_four ↦ refl | of_eight ↦ refl | of_sixteen ↦ refl ];
    none =
        elim v as (λ (u : Wide).
        map (λ (k : Handle). by_tests f u r w b c d y z k 1 true true) (whole f r u ∷ one_two f r u ∷ two_one f r u ∷ both f r u ∷ [])
        ≡ 0 ∷ 0 ∷ 0 ∷ 0 ∷ [])
        [ of_four ↦ refl | of_eight ↦ refl | of_sixteen ↦ refl ];
  }

  shown_write : Shown 2 w
  shown_write = record {
    primary = refl;
    ends =
        elim v as (λ (u : Wide).
        map (λ (k : Handle). through (width_of k) (f (name_of k)) k.selector (from f u r w b c d y z k 2)) (whole f w u ∷ one_two f w u ∷ two_one f w u ∷ both f w u ∷ [])
        ≡ map (λ (k : Handle). k.password) (whole f w u ∷ one_two f w u ∷ two_one f w u ∷ both f w u ∷ []))
        [ of_four ↦ refl | of_eight ↦ refl | of_sixteen ↦ refl ];
    none =
        elim v as (λ (u : Wide).
        map (λ (k : Handle). by_tests f u r w b c d y z k 2 true true) (whole f w u ∷ one_two f w u ∷ two_one f w u ∷ both f w u ∷ [])
        ≡ 0 ∷ 0 ∷ 0 ∷ 0 ∷ [])
        [ of_four ↦ refl | of_eight ↦ refl | of_sixteen ↦ refl ];
  }

  module _ (m : ℕ) (p : List ℕ) (l : length p ≡ 16) (h : Shown m p) where
    -- what the sheet and the tests have at a place
    laid : (i : ℕ) → get_or (computed f p v).bytes i [] ≡ get_or (expected f p v).bytes i []
    laid i = ap (λ (a : Sheet f p v). get_or a.bytes i []) (sheet f p v)

    made : (i : ℕ) → get_or (computed f p v).weakenings i (refusal 0) ≡ get_or (expected f p v).weakenings i (refusal 0)
    made i = ap (λ (a : Sheet f p v). get_or a.weakenings i (refusal 0)) (sheet f p v)

    left_as : (i : ℕ) → get_or (computed f p v).reductions i no_handle ≡ get_or (expected f p v).reductions i no_handle
    left_as i = ap (λ (a : Sheet f p v). get_or a.reductions i no_handle) (sheet f p v)

    ends_at : (i : ℕ) → get_or (map (λ (k : Handle). through (width_of k) (f (name_of k)) k.selector (from f v r w b c d y z k m)) (four p)) i []
        ≡ get_or (map (λ (k : Handle). k.password) (four p)) i []
    ends_at i = ap (λ (x : List (List ℕ)). get_or x i []) h.ends

    none_at : (i : ℕ) → get_or (map (λ (k : Handle). by_tests f v r w b c d y z k m true true) (four p)) i 0 ≡ get_or (0 ∷ 0 ∷ 0 ∷ 0 ∷ []) i 0
    none_at i = ap (λ (x : List ℕ). get_or x i 0) h.none

    told_three : Told f on (three f v m p)
    told_three =
        λ j.
        validation_told f v r w b c d y z (whole f p v) holds_whole (at 0) (laid 0) m opened_whole j
        ∷ weakening_told f v r w b c d y z (whole f p v) holds_whole (at 0) (laid 0) (one f p v) (at 1) (t f p v).after_first (t f p v).first (laid 1) (made 0) j
        ∷ weakening_told f v r w b c d y z (one f p v) (one_holds f p v sixteen) (at 1) (laid 1) (one_two f p v) (at 2) (t f p v).after_both (t f p v).second (laid 2) (made 1) j
        ∷ validation_told f v r w b c d y z (one_two f p v) (one_two_holds f p v sixteen) (at 2) (laid 2) m opened_one_two j
        ∷ reduction_told f v r w b c d y z (one_two f p v) (one_two_holds f p v sixteen) (at 2) (laid 2) m (both f p v) (at 5) (laid 5) opened_one_two (reduces (one_two f p v) ∙ left_as 0) j
        ∷ weakening_told f v r w b c d y z (whole f p v) holds_whole (at 0) (laid 0) (two f p v) (at 3) (t f p v).after_second (t f p v).second (laid 3) (made 2) j
        ∷ weakening_told f v r w b c d y z (two f p v) (two_holds f p v sixteen) (at 3) (laid 3) (two_one f p v) (at 4) (t f p v).after_both (t f p v).first (laid 4) (made 3) j
        ∷ validation_told f v r w b c d y z (two_one f p v) (two_one_holds f p v sixteen) (at 4) (laid 4) m opened_two_one j
        ∷ reduction_told f v r w b c d y z (two_one f p v) (two_one_holds f p v sixteen) (at 4) (laid 4) m (both f p v) (at 5) (laid 5) opened_two_one (reduces (two_one f p v) ∙ left_as 1) j
        ∷ weakening_told f v r w b c d y z (whole f p v) holds_whole (at 0) (laid 0) (both f p v) (at 5) (t f p v).after_both (t f p v).shared (laid 5) (made 4) j
        ∷ validation_told f v r w b c d y z (both f p v) (both_holds f p v sixteen) (at 5) (laid 5) m opened_both j
        ∷ reduction_told f v r w b c d y z (both f p v) (both_holds f p v sixteen) (at 5) (laid 5) m (both f p v) (at 5) (laid 5) opened_both (reduces (both f p v) ∙ left_as 2) j
        ∷ []
      where
        at : ℕ → List ℕ
        at i = get_or (expected f p v).bytes i []

        holds_whole : Holdable (whole f p v)
        holds_whole = whole_holds f p v l

        opened_whole : Opened f v r w b c d y z (whole f p v) m
        opened_whole = record { ends = ends_at 0; none = none_at 0 }

        opened_one_two : Opened f v r w b c d y z (one_two f p v) m
        opened_one_two = record { ends = ends_at 1; none = none_at 1 }

        opened_two_one : Opened f v r w b c d y z (two_one f p v) m
        opened_two_one = record { ends = ends_at 2; none = none_at 2 }

        opened_both : Opened f v r w b c d y z (both f p v) m
        opened_both = record { ends = ends_at 3; none = none_at 3 }

        reduces : (k : Handle) → reduced (bits_of (kind v)) (g f) k (primary_of (cluster_at (records v r w) 31) m)
            ≡ reduced (bits_of (kind v)) (g f) k p
        reduces k = ap (reduced (bits_of (kind v)) (g f) k) h.primary

  pub three_told : length r ≡ 16 → length w ≡ 16 → ThreeTold f v r w b c d y z
  three_told lr lw = record { reading = told_three 1 r lr shown_read; writing = told_three 2 w lw shown_write }
