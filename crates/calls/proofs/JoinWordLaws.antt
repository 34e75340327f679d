-- Joining in words. A join has shown of each handle what validation shows, and more: one name, and a segment that neither
-- references. What it makes is read back from its bytes, and in words it is what the handle crate says of the union.
-- Assumes nothing.
use mathlib.Core.Path.{◌≡◌, refl, sym, ap, ◌∙◌, subst}
use mathlib.Core.Logic.{◌⊎◌, inl, inr, ◌↔◌}
use Prim.Native.Nat.{ℕ, ◌<◌}
use native.Mathlib.Omega.{arith}
use mathlib.Core.Bool.{Bool, false, ◌||◌, cond, false≢true}
use mathlib.Core.List.{List, []}
use lib.Dec.{eqb}
use lib.ListN.{length, get_or}
use borrow.Author.Tests.{eq-eqb, eqb-false, not-false}
use Rattle.bits.specs.Sets.{full}
use Rattle.handle.specs.declared.Handle.{Handle}
use Rattle.handle.specs.Selectors.{either, union, whole_union}
use Rattle.handle.specs.Handles.{Name, name_of, node_of, width_of, no_width, bytes_in, encoded, decoded, Holdable, first_of, no_such_place, joined}
use Rattle.handle.specs.Conversion.{SixteenBytes}
use Rattle.handle.specs.Opens.{Opens}
use Rattle.handle.specs.Words.{Bit, subselector, References, Holding}
use Rattle.handle.proofs.TripLaws.{decode_encode, bytes_laid, length_encoded, length_decoded}
use Rattle.handle.proofs.HeldLaws.{holdable_decoded, holdable_joined}
use Rattle.handle.proofs.PasswordLaws.{equal_validates}
use Rattle.handle.proofs.WordLaws.{flat_in, joined_in_words}
use Rattle.handle.proofs.SelectorLaws.{references_flat}
use Rattle.handle.proofs.JoinLaws.{joins}
use Rattle.store.specs.declared.Store.{Store}
use Rattle.store.specs.Records.{cluster_at, primary_of}
use Rattle.calls.specs.Calls.{Copy, joining, validating, record_named}
use Rattle.calls.specs.Numbers.{number}
use Rattle.calls.specs.Steps.{Outcome, handles, no_bytes, step, left, given}
use Rattle.calls.specs.Words.{Flat}
use Rattle.calls.specs.Literals.{none, told}
use Rattle.calls.specs.JoinWords.{Together, Covering, Primary, PrimaryFor, JoinNeeds, JoinWhole, JoinedInWords}
use Rattle.calls.specs.JoinWords.{JoinInWords}
use Rattle.calls.proofs.FirstLaws.{first_clear}
use Rattle.calls.proofs.StepLaws.{step_done, step_number}
use Rattle.calls.proofs.TestLaws.{Is, off_is, or_is}
use Rattle.calls.proofs.SelectorWords.{references_is, whole_is, four}
use Rattle.calls.proofs.CallLaws.{or_left}
use Rattle.calls.proofs.JoinNumberLaws.{name_same, same_name_lem, widths_same, idle, other, each_rows, one_rows, one_numbered, number_each, valid_one}
use Rattle.calls.proofs.JoinNumberLaws.{Cleared, cleared, cleared_first, cleared_second}

module _ (f : Name → List ℕ → ℕ → List ℕ) (m : ℕ) (a b : List ℕ) where
  abbrev h : Handle
  h = decoded a

  abbrev k : Handle
  k = decoded b

  covering_is : Is (whole_union (width_of h) h.selector k.selector) (Covering h k)
  covering_is = whole_is (width_of h) h k (four a) (four b)

  -- ---- the numbers

  module _ (s : Store) (size : ℕ) where
    abbrev Both : Type 0
    Both = (number f (validating m a) s size ≡ 0) × (number f (validating m b) s size ≡ 0)

    -- where both validate and have one name, row 23 is left
    both_left : Both → Together h k → first_of (each_rows f s size m h k) ≡ cond (whole_union (width_of h) h.selector k.selector) 23 0
    both_left v t =
        let p = first_clear (one_rows f s size m h) (one_numbered f s size m h) (sym (valid_one f s size m a) ∙ v.0) in
        let q = first_clear (one_rows f s size m k) (one_numbered f s size m k) (sym (valid_one f s size m b) ∙ v.1) in
        simp (
          p.0,
          q.0,
          p.1.0,
          p.1.1.0,
          q.1.1.0,
          p.1.1.1.0,
          p.1.1.1.1.0,
          q.1.1.1.1.0,
          same_name_lem h k t.0 t.1,
          p.1.1.1.1.1.0,
          q.1.1.1.1.1.0,
          p.1.1.1.1.1.1.0,
          q.1.1.1.1.1.1.0,
          p.1.1.1.1.1.1.1.0,
          q.1.1.1.1.1.1.1.0,
        )

    clear : number f (joining m a b) s size ≡ 0 → Cleared f s size m h k
    clear e = cleared f s size m h k (sym (number_each f s size m a b) ∙ e)

    same_widths : number f (joining m a b) s size ≡ 0 → width_of h ≡ width_of k
    same_widths e = widths_same f s size m h k (clear e).together (clear e).wide

    pub join_needs : JoinNeeds f m a b s size
    join_needs = (out, back)
      where
        out : number f (joining m a b) s size ≡ 0 → Both × Together h k × ¬ Covering h k
        out e =
            let c = clear e in
            let n : name_of h ≡ name_of k = name_same h k c.together in (
              (
                valid_one f s size m a ∙ cleared_first f s size m h k c,
                valid_one f s size m b ∙ cleared_second f s size m h k c,
              ),
              (ap (λ (n : Name). n.node) n, ap (λ (n : Name). n.local) n),
              λ w. false≢true (sym c.some ∙ covering_is.into w),
            )

        back : Both × Together h k × ¬ Covering h k → number f (joining m a b) s size ≡ 0
        back r =
            number_each f s size m a b
            ∙ both_left r.0 r.1
            ∙ ap (λ (t : Bool). cond t 23 0) (off_is covering_is r.2)

    -- a primary handle references every segment
    all_referenced : (c : List ℕ) → Primary (decoded c) → (i : ℕ) → i < width_of (decoded c) → References (decoded c) i
    all_referenced c p i q =
        (references_is (decoded c) (four c) i).out
        (references_flat (width_of (decoded c)) (decoded c).selector
        (flat_in (width_of (decoded c)) (decoded c).selector (λ j r. p j (rw (four c) at r))) i q)

    pub join_whole_lem : JoinWhole f m a b s size
    join_whole_lem =
        record {
          covered = covered;
          primary = λ v t p. covered v t (over (alike v t) p);
          never = λ p e. (join_needs.0 e).2 (over (same_widths e) p);
        }
      where
        covered : Both → Together h k → Covering h k → number f (joining m a b) s size ≡ 23
        covered v t w =
            number_each f s size m a b ∙ both_left v t ∙ ap (λ (t : Bool). cond t 23 0) (covering_is.into w)

        alike : Both → Together h k → width_of h ≡ width_of k
        alike v t =
            let p = first_clear (one_rows f s size m h) (one_numbered f s size m h) (sym (valid_one f s size m a) ∙ v.0) in
            let q = first_clear (one_rows f s size m k) (one_numbered f s size m k) (sym (valid_one f s size m b) ∙ v.1) in
            widths_same f s size m h k (same_name_lem h k t.0 t.1)
            (λ j. p.1.1.1.1.1.1.0 j || q.1.1.1.1.1.1.0 j)

        over : width_of h ≡ width_of k → Primary h ⊎ Primary k → Covering h k
        over w (inl p) = λ i l. inl (all_referenced a p i l)
        over w (inr p) = λ i l. inr (all_referenced b p i (rw w at l))

  -- ---- a join done

  module _ (sixteen : SixteenBytes f) (o : (i : ℕ) → get_or a i 0 < 256) (c : Copy) (e : number f (joining m a b) c.store (length c.memory) ≡ 0) where
    abbrev s : Store
    s = c.store

    abbrev size : ℕ
    size = length c.memory

    abbrev p : List ℕ
    p = primary_of (cluster_at s (record_named h)) m

    abbrev r : Handle
    r = joined (width_of h) (f (name_of h)) h k p

    shown : Cleared f s size m h k
    shown = clear s size e

    there : no_such_place h ≡ false
    there = or_left (no_such_place h) (no_such_place k) shown.place

    opens : Opens (width_of h) (f (name_of h)) (name_of h) p (either h.selector k.selector) r
    opens = (joins (width_of h) (f (name_of h)) p h k).opens refl shown.some

    words : Holding (width_of h) (f (name_of h)) (λ i. References h i ⊎ References k i) p h r
    words = joined_in_words (width_of h) (f (name_of h)) h k (four a) (four b) p

    known : 0 < width_of h
    known = let z = eqb-false (width_of h) 0 (or_left (no_width h) (no_width k) shown.known) in omega (arith, z)

    holdable : Holdable r
    holdable = holdable_joined (f (name_of h)) (sixteen (name_of h)) h (holdable_decoded a o known) k p

    whole : step f (joining m a b) c ≡ record { copy = c; reply = handles (encoded r) no_bytes 0 }
    unfolding left given
    whole = step_done f (joining m a b) c e

    abbrev out : List ℕ
    out = bytes_in (step f (joining m a b) c).reply.first

    out_is : out ≡ encoded r
    out_is = ap (λ (o : Outcome). bytes_in o.reply.first) whole ∙ bytes_laid (encoded r)

    back : decoded out ≡ r
    back = ap decoded out_is ∙ decode_encode r holdable

    names : name_of h ≡ name_of k
    names = name_same h k shown.together

    references_both : (i : ℕ) → i < width_of h → References r i ↔ (References h i ⊎ References k i)
    references_both i l = (
      λ q. each.out (sym (opens.refers i l) ∙ (references_is r words.four i).into q),
      λ q. (references_is r words.four i).out (opens.refers i l ∙ each.into q),
    )
      where
        each : Is (either h.selector k.selector i) (References h i ⊎ References k i)
        each = or_is (references_is h (four a) i) (references_is k (four b) i)

    unflat : ¬ Flat r 0
    unfolding joined
    unflat g = false≢true (sym shown.some ∙ eq-eqb (union (width_of h) h.selector k.selector) (full (width_of h)) g)

    clear_one : first_of (one_rows f s size m r) ≡ 0
    unfolding joined
    clear_one =
        simp (
          shown.sound,
          there,
          shown.mode,
          opens.ungapped,
          or_left (no_width h) (no_width k) shown.known,
          not-false (eqb (width_of h) (cluster_at s (record_named h)).width)
              (or_left (other f s size m h) (other f s size m k) shown.wide),
          or_left (idle f s size m h) (idle f s size m k) shown.active,
          equal_validates (width_of h) (f (name_of h)) r p opens.valid,
        )

    validates_again : number f (validating m out) s size ≡ 0
    validates_again =
        valid_one f s size m out ∙ ap (λ (q : Handle). first_of (one_rows f s size m q)) back ∙ clear_one

    in_words : JoinedInWords f m a b c
    unfolding joined
    in_words =
        record {
          copy = ap (λ (o : Outcome). o.copy) whole;
          reply = ap (λ (o : Outcome). o.reply) whole ∙ ap (λ (l : List ℕ). told 0 l none 0 0 []) (sym out_is);
          long = ap length out_is ∙ length_encoded r holdable ∙ sym (length_decoded a known);
          node = (
            ap node_of back ∙ words.node,
            ap node_of back ∙ words.node ∙ ap (λ (n : Name). n.node) names,
          );
          local = (
            ap (λ (q : Handle). q.local) back ∙ words.local,
            ap (λ (q : Handle). q.local) back ∙ words.local ∙ ap (λ (n : Name). n.local) names,
          );
          union = λ i l. subst (λ (q : Handle). Bit i (subselector q 0) ↔ (References h i ⊎ References k i)) (sym back) (words.bits i l);
          flat = λ j g l. subst (λ (q : Handle). Flat q j) (sym back) (words.others j g l);
          other = subst (λ (q : Handle). ¬ Flat q 0) (sym back) unflat;
          references = λ i l. subst (λ (q : Handle). References q i ↔ (References h i ⊎ References k i)) (sym back) (references_both i l);
          password = λ q w.
              subst (λ (t : Handle). t.password ≡ f (name_of h) q (subselector t 0)) (sym back)
              (words.password ∙ ap (λ (l : List ℕ). f (name_of h) l (subselector r 0)) (primary q w));
          validates = validates_again;
        }
      where
        primary : (q : List ℕ) → PrimaryFor m (cluster_at s (record_named h)) q → p ≡ q
        primary q (inl (g, t)) = ap (primary_of (cluster_at s (record_named h))) g ∙ sym t
        primary q (inr (g, t)) = ap (primary_of (cluster_at s (record_named h))) g ∙ sym t

pub join_in_words : (f : Name → List ℕ → ℕ → List ℕ) → SixteenBytes f → JoinInWords f
join_in_words f sixteen m a b o c d = in_words f m a b sixteen o c (step_number f (joining m a b) c d)
