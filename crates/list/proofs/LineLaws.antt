-- The line of one record: the part of the list that was cut out is the record, the answer is the one that it gives, and
-- the bytes that a read tells are in the buffer.
-- Assumes nothing.
use mathlib.Core.Path.{◌≡◌, sym, ap, ◌∙◌, subst}
use Prim.Native.Nat.{ℕ, ◌+◌, ◌-◌, ◌*◌, ◌≤◌}
use native.Mathlib.Omega.{arith}
use mathlib.Core.List.{List}
use lib.ListN.{length, get_or, take, drop}
use lib.Seq.{length-take-le, get_or-take, get_or-drop}
use Rattle.chain.specs.Bytes.{next_in}
use Rattle.sizes.specs.Sizes.{node_memory}
use Rattle.store.specs.declared.Store.{Store}
use Rattle.calls.specs.Answers as answers
use Rattle.lines.specs.Lines.{plain, call_line}
use Rattle.lines.specs.Buffers.{brief, call_line_within, Begins}
use Rattle.lines.proofs.LineLaws.{call_line_fits}
use Rattle.list.specs.Records.{record_bytes, byte, record_in, code_of}
use Rattle.list.specs.Runs.{Bench, bench, left, buffer_bytes, Performed, performed}
use Rattle.list.specs.Texts.{record_line}
use Rattle.list.specs.inner.Loops.{Reach, Lined}
use Rattle.list.proofs.ReadLaws.{performed_told}

-- ---- the bytes that a read tells

module _ (d : Store) (a : answers.Answer) (n l r : List ℕ) (b : Bench) (e : left d a n l ≡ performed r b)
    (k : length l ≡ length b.buffer) (t : ℕ) (et : t ≡ answers.gives answers.length 0 a) where
  pub told_fits : t ≤ length l
  told_fits =
      let h : (performed r b).answer.length ≤ length b.buffer = performed_told r b in
      let u : (plain a).length ≡ (performed r b).answer.length = ap (λ (p : Performed). p.answer.length) e in
      omega arith

  pub told_taken : t ≡ length (take t l)
  told_taken = sym (length-take-le t l told_fits)

-- ---- the record

module _ (list : List ℕ) (k : ℕ) (r : List ℕ) (er : r ≡ record_in list k) where
  pub one_brief : (w v : ℕ) → v ≡ code_of r → ((v ≡ 5 → ⊥) → w ≤ brief) → (code_of (record_in list k) ≡ 5 → ⊥) → w ≤ brief
  one_brief w v ev f t = f (λ q. t (ap code_of (sym er) ∙ sym ev ∙ q))

  module _ (s : Store) (m b out : List ℕ) (reach : Reach list k b out) (d : Store) (a : answers.Answer) (n l : List ℕ)
      (e : left d a n l ≡ performed r (bench s m b)) (same : length l ≡ length b) (t : ℕ)
      (et : t ≡ answers.gives answers.length 0 a) where
    abbrev p : Performed
    p = performed (record_in list k) (bench s m b)

    is : left d a n l ≡ p
    is = e ∙ ap (λ (x : List ℕ). performed x (bench s m b)) er

    pub one_lined : (after : List ℕ) (o w v : ℕ)
        → Begins out after o (call_line_within (length out) k v (plain a) (take t l)) → o ≡ w
        → v ≡ code_of r → (next : ℕ) → next ≡ byte r 0
        → Lined list k (bench s m b) (bench d n l) out after w next
    one_lined after o w v h eo ev next en =
        record {
          left = ap (λ (q : Performed). q.bench) is;
          line = subst (Begins out after w) line (subst (λ (n : ℕ). Begins out after n (call_line_within (length out) k v (plain a) (take t l))) eo h);
          named = en ∙ ap (λ (x : List ℕ). byte x 0) er ∙ begins;
        }
      where
        begins : byte (record_in list k) 0 ≡ next_in list record_bytes k
        begins =
            let e : (k - 1) * record_bytes + 0 ≡ (k - 1) * record_bytes = omega arith in
            get_or-take record_bytes (drop ((k - 1) * record_bytes) list) 0 0 (omega arith)
            ∙ get_or-drop ((k - 1) * record_bytes) list 0 0 ∙ ap (λ (j : ℕ). get_or list j 0) e

        short : length (take t l) ≤ node_memory
        short =
            let f = told_fits d a n l r (bench s m b) e same t et in
            let g = told_taken d a n l r (bench s m b) e same t et in
            let q : length b ≡ buffer_bytes = reach.room in
            omega arith

        line : call_line_within (length out) k v (plain a) (take t l) ≡ record_line list k p
        line =
            call_line_fits (length out) k v (plain a) (take t l) reach.wide short
            ∙ (λ j. call_line k ((ev ∙ ap code_of er) j) (plain a) (take (et j) l))
            ∙ (λ j. call_line k (code_of (record_in list k)) (is j).answer (take (is j).answer.length (is j).bench.buffer))
