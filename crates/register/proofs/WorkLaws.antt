-- Laws of the loops that work all entries out. What is there is what is seen of an entry's handle and, where handles are wanted,
-- that handle; before each turn of the outer loop all entries below k are there, and the inner one comes down the way from what
-- is known to k itself.
-- Assumes nothing.
use mathlib.Core.Path.{◌≡◌, refl, sym, ap, ◌∙◌, subst}
use mathlib.Core.List.{List}
use mathlib.Core.Bool.{Bool, true}
use Rattle.std.specs.Prelude.{Option, Some, None, Result, Ok, Err, MatchResult}
use Rattle.std.specs.Result.{IsErrAnd}
use Prim.Native.Nat.{ℕ, zero, suc, ◌+◌, ◌/◌, ◌≤◌, ◌<◌}
use native.Mathlib.Decide.{ℕ_discrete}
use native.Mathlib.Omega.{arith}
use lib.ListN.{length, get_or, set, replicate, length-set}
use lib.Seq.{get_or-set_same, get_or-set_other}
use Rattle.bits.specs.Sets.{has}
use Rattle.bits.proofs.SetLaws.{has_set_of}
use Rattle.chain.specs.Way.{reached, refusal}
use Rattle.chain.specs.Means.{IsRecord, OnRecords}
use Rattle.chain.proofs.WayLaws.{reached_none, reached_more}
use Rattle.handle.specs.declared.Handle.{Handle}
use Rattle.handle.specs.Handles.{Weakened}
use Rattle.handle.specs.Handles.{Name, name_of, width_of, weakening}
use Rattle.handle.specs.Selectors.{references}
use Rattle.handle.specs.Widths.{bits_of}
use Rattle.numbers.specs.declared.Number.{Number}
use Rattle.numbers.specs.Codes.{code}
use Rattle.register.specs.declared.Seen.{Seen}
use Rattle.register.specs.declared.Fault.{Fault}
use Rattle.register.specs.declared.work.Climbed.{Climbed}
use Rattle.register.specs.Registers.{entries, parent_of, way_of, mask_of, masks_of, Made, told, given, failed, made, lowest}
use Rattle.register.specs.inner.Work.{IsEntry, Has, Entry, segment_in, blank, Small, ClimbedTo, Sees, Refuses, Stepped, StepsTo, Worked}
use Rattle.register.proofs.KeptLaws.{width_steps}
use Rattle.register.proofs.MadeLaws.{Good, Bad, good_none, good_more, bad_more, bad_reached, good_made, bad_made, way_made}
use Rattle.register.proofs.MadeLaws.{lowest_none, lowest_is, ends_known}
use Rattle.register.proofs.OpenerLaws.{code_some}

abbrev nones : ℕ → List (Option Seen)
nones n = replicate n None

nones_none : (n j : ℕ) (x : Seen) → get_or (nones n) j None ≡ Some x → ⊥
nones_none zero j x q = cc
nones_none (suc n) zero x q = cc
nones_none (suc n) (suc j) x q = nones_none n j x q

-- a result m that is r, but for a refusal, which names the entry k
abbrev pub Named : {T : Type 0} → ℕ → Result T Number → Result T Fault → Type 0
Named k r m = MatchResult r (λ x. m ≡ Ok x) (λ n. m ≡ Err (record { number = n; entry = k }))

-- so a closure maps it
pub named : {T : Type 0} (r : Result T Number) (m : Result T Fault) (k : ℕ) (post : Number → Fault → Type 0)
    → MatchResult r (λ x. m ≡ Ok x) (λ n. IsErrAnd m (post n))
    → ((n : Number) (d : Fault) → post n d → d ≡ record { number = n; entry = k }) → Named k r m
named (Ok x) m k post h p = h
named (Err n) (Ok x) k post h p = elim h [ ]
named (Err n) (Err d) k post h p = ap (λ (d : Fault). Err d) (p n d h)

module _ {T : Type 0} (k : ℕ) (P : T → Type 0) (Q : Number → Type 0) where
  pub named_ok : (r : Result T Number) (m : Result T Fault) → Named k r m → MatchResult r P Q → (x : T) → m ≡ Ok x → P x
  named_ok (Ok y) m h c x q = let u : y ≡ x = cc in subst P u c
  named_ok (Err n) m h c x q = absurd (cc)

  pub named_err : (r : Result T Number) (m : Result T Fault) → Named k r m → MatchResult r P Q → (d : Fault) → m ≡ Err d
      → Q d.number × (d.entry ≡ k)
  named_err (Ok y) m h c d q = absurd (cc)
  named_err (Err n) m h c d q =
      let v : record { number = n; entry = k } ≡ d = cc in
      (subst Q (ap (λ (d : Fault). d.number) v) c, sym (ap (λ (d : Fault). d.entry) v))

module _ (f : Name → List ℕ → ℕ → List ℕ) where
  -- entry k has a handle, of which x has what is seen, and which it has where handles are wanted
  pub record Lit (h : Handle) (e : List ℕ) (wanted : Bool) (k : ℕ) (x : Entry) : Type 0 where
    pub handle : Handle
    pub good : Good f h e k handle
    pub sees : Sees handle x.seen
    pub same : wanted ≡ true → x.handle ≡ handle

  pub record Known (h : Handle) (e : List ℕ) (n : ℕ) (wanted : Bool) (ss : List (Option Seen)) (hs : List Handle) : Type 0 where
    pub size : length ss ≡ 256
    pub all : n ≡ entries e
    pub few : n ≤ 255
    pub lit : (j : ℕ) (s : Seen) → get_or ss j None ≡ Some s
        → Lit h e wanted j (record { seen = s; handle = get_or hs j blank })

  pub record Working (h : Handle) (e : List ℕ) (n : ℕ) (wanted : Bool) (ss : List (Option Seen)) (hs : List Handle) (path : List ℕ) (k : ℕ) : Type 0 where
    pub memo : Known h e n wanted ss hs
    pub room : length path ≡ 256
    pub low : 1 ≤ k
    pub before : (j : ℕ) → j < k → Has ss j

  pub record Descending (h : Handle) (e : List ℕ) (n : ℕ) (wanted : Bool) (ss : List (Option Seen)) (hs : List Handle) (path : List ℕ) (k met above : ℕ) (sight : Seen) : Type 0 where
    pub working : Working h e n wanted ss hs path k
    pub some : k ≤ n
    pub few : met ≤ n
    pub on : OnRecords (entries e) (parent_of e) k met
    pub kept : (i : ℕ) → i < met → get_or path i 0 ≡ reached (parent_of e) k i
    pub here : above ≡ reached (parent_of e) k met
    pub end : get_or ss above None ≡ Some sight

  -- ---- the outer loop

  module _ (h : Handle) (e : List ℕ) (n : ℕ) (wanted : Bool) (ss : List (Option Seen)) (hs : List Handle) (path : List ℕ) (k : ℕ)
      (w : Working h e n wanted ss hs path k) where
    pub working_small : k ≤ n → Small e ss path k
    working_small l =
        let a = w.memo.all in
        let b = w.memo.few in
        record {
          few = omega arith;
          byte = omega arith;
          size = w.memo.size;
          room = w.room;
          supplied = w.before 0 w.low;
        }

    below_fine : (j : ℕ) → 1 ≤ j → j < k → (made f h e j).number ≡ 0
    below_fine j a b =
        let s = w.before j b in
        let l = w.memo.lit j s.seen s.is in
        ap (λ (m : Made). m.number) (good_made f h e j l.handle l.good)

    -- an entry that fails, and none below it does
    works_failed : k ≤ n → (x : ℕ) → (x ≡ 0 → ⊥) → made f h e k ≡ failed x → lowest f h e ≡ told x k
    works_failed l x z q = lowest_is f h e k x w.low (let a = w.memo.all in omega arith) below_fine z q

    pub works_way : k ≤ n → (d : Fault) → (way_of e k ≡ refusal (code d.number)) × (d.entry ≡ k)
        → lowest f h e ≡ told (code d.number) d.entry
    works_way l d (q, u) =
        works_failed l (code d.number) (code_some d.number) (way_made f h e k (code d.number) (code_some d.number) q)
        ∙ ap (told (code d.number)) (sym u)

    pub descending_all : (path' : List ℕ) (c : Climbed) → ClimbedTo e ss path' k c → k ≤ n → length path' ≡ 256
        → Descending h e n wanted ss hs path' k c.met c.above c.seen
    descending_all path' c d l r =
        record {
          working = record { memo = w.memo; room = r; low = w.low; before = w.before };
          some = l;
          few = let a = w.memo.all in let b = d.low in omega arith;
          on = d.on;
          kept = d.kept;
          here = d.above;
          end = d.end;
        }

    pub works_all : n < k → Worked f h e wanted ss hs
    works_all l =
        record {
          told = lowest_none f h e (λ j a b. below_fine j a (let q = w.memo.all in omega arith));
          seen = λ j b. let s = there j b in lit j s.seen s.is (w.memo.lit j s.seen s.is);
          all = λ t j b.
              let s = there j b in
              let l = w.memo.lit j s.seen s.is in
              good_made f h e j l.handle l.good ∙ ap given (sym (l.same t));
        }
      where
        there : (j : ℕ) → j < entries e + 1 → Has ss j
        there j b = w.before j (let q = w.memo.all in omega arith)

        lit : (j : ℕ) (s : Seen) → get_or ss j None ≡ Some s → Lit h e wanted j (record { seen = s; handle = get_or hs j blank })
            → (i : ℕ) → i < width_of h → references (made f h e j).handle.selector i ≡ segment_in i (get_or ss j None)
        lit j s q l i b =
            ap (λ (m : Made). references m.handle.selector i) (good_made f h e j l.handle l.good)
            ∙ sym (ap (has i) l.sees.set
            ∙ has_set_of (width_of l.handle) (references l.handle.selector) i
            (subst (λ (v : ℕ). i < v) (sym (ap bits_of (width_steps f h (masks_of e j l.good.m) l.handle l.good.told))) b))
            ∙ ap (segment_in i) (sym q)

  -- ---- the inner loop

  module _ (h : Handle) (e : List ℕ) (n : ℕ) (wanted : Bool) (ss : List (Option Seen)) (hs : List Handle) (path : List ℕ)
      (k met above : ℕ) (sight : Seen) (d : Descending h e n wanted ss hs path k met above sight) where
    pub descended : met ≡ 0 → Working h e n wanted ss hs path (k + 1)
    descended z =
        record { memo = d.working.memo; room = d.working.room; low = omega arith; before = before }
      where
        before : (j : ℕ) → j < k + 1 → Has ss j
        before j b = go (ℕ_discrete j k)
          where
            go : Dec (j ≡ k) → Has ss j
            go (yes q) =
                subst (Has ss)
                (d.here ∙ ap (reached (parent_of e) k) z ∙ reached_none (parent_of e) k ∙ sym q)
                (record { seen = sight; is = d.end })
            go (no q) = d.working.before j (omega arith)

    lit_above : Lit h e wanted above (record { seen = sight; handle = get_or hs above blank })
    lit_above = d.working.memo.lit above sight d.end

    pub descending_above : above ≤ 255
    descending_above =
        let l = ends_known e above lit_above.good.m lit_above.good.ends in
        let a = d.working.memo.all in
        let b = d.working.memo.few in
        omega arith

    module _ (i : ℕ) (more : met ≡ i + 1) where
      abbrev j : ℕ
      j = get_or path i 0

      at : j ≡ reached (parent_of e) k i
      at = d.kept i (omega arith)

      pub descending_place : i < length path
      descending_place = let r = d.working.room in let a = d.few in let b = d.working.memo.few in omega arith

      pub descending_entry : IsEntry e (get_or path i 0)
      descending_entry =
          let r = d.on i (omega arith) in
          let q = at in
          let a = d.working.memo.all in
          let b = d.working.memo.few in
          record { first = omega arith; last = omega arith; few = omega arith }

      is_record : IsRecord (entries e) j
      is_record = let r = descending_entry in (r.first, r.last)

      pub descending_byte : get_or path i 0 ≤ 255
      descending_byte = let r = descending_entry in let a = r.last in let b = r.few in omega arith

      inside : j < length ss
      inside = let b = descending_byte in let s = d.working.memo.size in omega arith

      -- the entry above is the one that this one was weakened from
      parent : Lit h e wanted (parent_of e j) (record { seen = sight; handle = get_or hs above blank })
      parent =
          subst (λ (p : ℕ). Lit h e wanted p (record { seen = sight; handle = get_or hs above blank }))
          (d.here ∙ ap (reached (parent_of e) k) more ∙ reached_more (parent_of e) k i ∙ ap (parent_of e) (sym at)) lit_above

      abbrev w : Weakened
      w = weakening (width_of parent.handle) (f (name_of parent.handle)) parent.handle (mask_of e j)

      module _ (mask : ℕ) (em : mask ≡ mask_of e (get_or path i 0)) where
        pub works_step : (a : Fault) → Refuses sight mask a.number × (a.entry ≡ k) → lowest f h e ≡ told (code a.number) a.entry
        works_step a (r, u) =
            works_failed h e n wanted ss hs path k d.working d.some (code a.number) (code_some a.number)
            (subst (λ (x : ℕ). made f h e k ≡ failed x) is
            (bad_made f h e k w.number
            (bad_reached f h e k i w.number (λ i l. d.on i (omega arith))
            (subst (λ (i : ℕ). Bad f h e i w.number) at
            (bad_more f h e j is_record parent.handle parent.good w refl (λ y. code_some a.number (sym is ∙ y)))))))
            ∙ ap (told (code a.number)) (sym u)
          where
            is : w.number ≡ code a.number
            is =
                subst (λ (m : ℕ). (weakening (width_of parent.handle) (f (name_of parent.handle)) parent.handle m).number ≡ code a.number)
                em (r.number parent.handle parent.sees (f (name_of parent.handle)))

        pub descending_more : (hs' : List Handle) (s : Seen) → StepsTo f wanted sight hs above (get_or path i 0) mask hs' s
            → Descending h e n wanted (set ss (get_or path i 0) (Some s)) hs' path k i (get_or path i 0) s
        descending_more hs' s t =
            record {
              working =
                  record {
                    memo =
                        record {
                          size = length-set ss j (Some s) ∙ d.working.memo.size;
                          all = d.working.memo.all;
                          few = d.working.memo.few;
                          lit = lit;
                        };
                    room = d.working.room;
                    low = d.working.low;
                    before = λ i a. kept i (d.working.before i a);
                  };
              some = d.some;
              few = let l = d.few in omega arith;
              on = λ i l. d.on i (omega arith);
              kept = λ i l. d.kept i (omega arith);
              here = at;
              end = here;
            }
          where
            here : get_or (set ss j (Some s)) j None ≡ Some s
            here = get_or-set_same ss j (Some s) None inside

            kept : (i : ℕ) → Has ss i → Has (set ss j (Some s)) i
            kept i v = go (ℕ_discrete i j)
              where
                go : Dec (i ≡ j) → Has (set ss j (Some s)) i
                go (yes q) = subst (Has (set ss j (Some s))) (sym q) (record { seen = s; is = here })
                go (no q) = record { seen = v.seen; is = get_or-set_other ss j i (Some s) None q ∙ v.is }

            masked : Stepped f wanted (record { seen = sight; handle = get_or hs above blank }) (mask_of e j) (record { seen = s; handle = get_or hs' j blank })
            masked =
                subst (λ (m : ℕ). Stepped f wanted (record { seen = sight; handle = get_or hs above blank }) m (record { seen = s; handle = get_or hs' j blank }))
                em t.entry

            mine : Lit h e wanted j (record { seen = s; handle = get_or hs' j blank })
            mine =
                record {
                  handle = w.handle;
                  good =
                      good_more f h e j is_record parent.handle parent.good w refl
                      (masked.seen.number parent.handle parent.sees (f (name_of parent.handle)));
                  sees = masked.seen.seen parent.handle parent.sees (f (name_of parent.handle));
                  same = λ t.
                      masked.handle t (subst (λ (g : Handle). Sees g sight) (sym (parent.same t)) parent.sees)
                      ∙ ap (λ (g : Handle). (weakening (width_of g) (f (name_of g)) g (mask_of e j)).handle) (parent.same t);
                }

            lit : (i : ℕ) (v : Seen) → get_or (set ss j (Some s)) i None ≡ Some v
                → Lit h e wanted i (record { seen = v; handle = get_or hs' i blank })
            lit i v q = go (ℕ_discrete i j)
              where
                go : Dec (i ≡ j) → Lit h e wanted i (record { seen = v; handle = get_or hs' i blank })
                go (yes p) =
                    let r : get_or (set ss j (Some s)) j None ≡ Some v = ap (λ (i : ℕ). get_or (set ss j (Some s)) i None) (sym p) ∙ q in
                    let z = here in
                    let u : s ≡ v = cc in
                    subst (λ (i : ℕ). Lit h e wanted i (record { seen = v; handle = get_or hs' i blank })) (sym p)
                    (subst (λ (v : Seen). Lit h e wanted j (record { seen = v; handle = get_or hs' j blank })) u mine)
                go (no p) =
                    subst (λ (g : Handle). Lit h e wanted i (record { seen = v; handle = g })) (sym (t.others i p))
                    (d.working.memo.lit i v (sym (get_or-set_other ss j i (Some s) None p) ∙ q))

  -- ---- the handle supplied stands at place 0: the inner loop knows it from there

  pub working_none : (h : Handle) (e : List ℕ) (n : ℕ) (wanted : Bool) (s : Seen) (ss : List (Option Seen)) (hs : List Handle)
      (path : List ℕ) → n ≡ length e / 2 → length e / 2 ≤ 255 → Sees h s → length path ≡ 256 → ss ≡ nones 256 → length hs ≡ 256
      → Working h e n wanted (set ss 0 (Some s)) (set hs 0 h) path 1
  working_none h e n wanted s ss hs path q l v r z long =
      subst (λ (ss : List (Option Seen)). Working h e n wanted (set ss 0 (Some s)) (set hs 0 h) path 1) (sym z)
      (record {
        memo = record { size = refl; all = q; few = omega arith; lit = lit };
        room = r;
        low = omega arith;
        before = before;
      })
    where
      lit : (j : ℕ) (x : Seen) → get_or (set (nones 256) 0 (Some s)) j None ≡ Some x
          → Lit h e wanted j (record { seen = x; handle = get_or (set hs 0 h) j blank })
      lit zero x y =
          let u : s ≡ x = cc in
          subst (λ (x : Seen). Lit h e wanted 0 (record { seen = x; handle = get_or (set hs 0 h) 0 blank })) u
          (record {
            handle = h;
            good = good_none f h e;
            sees = v;
            same = λ t. get_or-set_same hs 0 h blank (omega arith);
          })
      lit (suc j) x y = absurd (nones_none 255 j x y)

      before : (j : ℕ) → j < 1 → Has (set (nones 256) 0 (Some s)) j
      before zero b = record { seen = s; is = refl }
      before (suc j) b = absurd (omega arith)
