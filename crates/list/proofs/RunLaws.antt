-- The run of a chain. Between two records the lines so far, and those of the records ahead on the bench as it is, are the
-- lines of the whole chain.
-- Assumes nothing.
use mathlib.Core.Path.{◌≡◌, refl, sym, ap, ap₂, ◌∙◌, subst}
use Prim.Native.Nat.{ℕ, zero, suc, ◌+◌, ◌-◌, ◌*◌, ◌/◌, ◌%◌, ◌^◌, ◌≤◌, ◌<◌}
use native.Mathlib.Omega.{arith}
use mathlib.Core.Bool.{Bool, true, false, not, cond}
use mathlib.Core.List.{List, ◌++◌, append_assoc, append-nil}
use borrow.Author.Tests.{not-false, eqb-true, ltb-false}
use borrow.Rule.Slice.PartMut.{mid_of, put_mid, same_len_mid}
use lib.Dec.{eqb, ltb}
use lib.ListN.{length, take, drop, length-take, length-drop, length-replicate}
use lib.Seq.{length-take-le, drop-drop}
use Rattle.store.specs.declared.Store.{Store}
use Rattle.store.specs.Records.{starting_store}
use Rattle.calls.proofs.CallLaws.{or_left, or_right}
use Rattle.chain.specs.Way.{Walked}
use Rattle.chain.specs.Way.{reached, done, refusal, records}
use Rattle.chain.specs.Means.{IsRecord, Whole}
use Rattle.chain.specs.Bytes.{count, next_in, way_in}
use Rattle.chain.proofs.WayLaws.{reached_none, reached_more}
use Rattle.chain.proofs.MeansLaws.{number_whole, whole_few}
use Rattle.lines.specs.Buffers.{longest, brief, Begins}
use Rattle.list.specs.Records.{record_bytes, most_bytes, record_in, code_of}
use Rattle.list.specs.Runs.{Bench, bench, buffer_bytes, starting, Performed, performed}
use Rattle.numbers.specs.Numbers.{length_number}
use Rattle.list.specs.Texts.{bad_length, checked, chain, record_line, record_lines}
use Rattle.list.specs.inner.Loops.{Reach, Lined, Ends, Ready}
use Rattle.list.proofs.PartLaws.{part_start, part_rest}
use Rattle.list.proofs.RoomLaws.{quiet_at, ends_none, ends_more, room_line, room_last}

-- the loop at record number i of the chain, which is record `at`; the lines so far end at `end`
pub record Going (list : List ℕ) (total : ℕ) (m₀ b₀ out₀ : List ℕ) (s : Store) (m b out : List ℕ) (at i end : ℕ) : Type 0 where
  pub some : i ≤ total
  pub placed : at ≡ reached (next_in list record_bytes) 1 i
  pub joined : take end out ++ record_lines list (records (next_in list record_bytes) at (total - i)) (bench s m b)
      ≡ record_lines list (chain list total) starting
  pub ends : Ends list i end
  pub same_memory : length m ≡ length m₀
  pub same_buffer : length b ≡ length b₀
  pub same_out : length out ≡ length out₀
  pub rest : drop end out ≡ drop end out₀

-- ---- a chain that is whole

-- a list whose chain has records has a list's length, and its way from record 1 is whole
record Chained (list : List ℕ) (total : ℕ) : Type 0 where
  even : length list % record_bytes ≡ 0
  few : length list ≤ most_bytes
  way : done total ≡ way_in list record_bytes 1

module _ (list : List ℕ) (total : ℕ) (e : checked list ≡ done total) where
  chained : 0 < total → Chained list total
  unfolding checked bad_length
  chained h = go (bad_length (length list)) refl (eqb (length list) 0) e
    where
      go : (t : Bool) → bad_length (length list) ≡ t → (u : Bool)
          → cond t (refusal length_number) (cond u (done 0) (way_in list record_bytes 1)) ≡ done total → Chained list total
      go true q u z =
          let a : length_number ≡ 0 = ap (λ (w : Walked). w.number) z in
          absurd (omega arith)
      go false q true z =
          let a : 0 ≡ total = ap (λ (w : Walked). w.records) z in
          absurd (omega arith)
      go false q false z =
          record {
            even =
                eqb-true (length list % record_bytes) 0
                (not-false (eqb (length list % record_bytes) 0)
                (or_left (not (eqb (length list % record_bytes) 0)) (ltb most_bytes (length list)) q));
            few =
                ltb-false most_bytes (length list)
                (or_right (not (eqb (length list % record_bytes) 0)) (ltb most_bytes (length list)) q);
            way = sym z;
          }

  pub whole : 0 < total → Whole (count list record_bytes) (next_in list record_bytes) 1 total
  whole h = number_whole (count list record_bytes) (next_in list record_bytes) 1 (done total) (chained h).way refl

  pub total_few : total ≤ 255
  total_few = go total refl
    where
      go : (t : ℕ) → total ≡ t → t ≤ 255
      go zero q = omega arith
      go (suc t) q =
          let h : 0 < total = omega arith in
          let f = (chained h).few in
          let w = whole_few (count list record_bytes) (next_in list record_bytes) 1 total (whole h) in
          omega arith

-- ---- the loop

module _ (list : List ℕ) (total : ℕ) (m₀ b₀ out₀ : List ℕ) (ready : Ready list total m₀ b₀ out₀) where
  abbrev next : ℕ → ℕ
  next = next_in list record_bytes

  pub going_none : (s : Store) → s ≡ starting_store → Going list total m₀ b₀ out₀ s m₀ b₀ out₀ 1 0 0
  going_none s es =
      record {
        some = omega arith;
        placed = sym (reached_none next 1);
        joined =
            λ j. record_lines list (records next 1 (none_gone j)) (bench (es j) (ready.memory j) (ready.buffer j));
        ends = ends_none list;
        same_memory = refl;
        same_buffer = refl;
        same_out = refl;
        rest = refl;
      }
    where
      none_gone : total - 0 ≡ total
      none_gone = omega arith

  module _ (s : Store) (m b out : List ℕ) (at i end : ℕ) (going : Going list total m₀ b₀ out₀ s m b out at i end) where
    pub going_inside : end ≤ length out
    going_inside =
        let n : i ≤ total = going.some in
        let f : total ≤ 255 = total_few list total ready.whole in
        let r = room_last list (length out₀) i end ready.wide going.ends (omega arith) in
        let o : length out ≡ length out₀ = going.same_out in
        omega arith

    pub going_all : total ≤ i → Begins out₀ out end (record_lines list (chain list total) starting)
    unfolding record_lines records
    going_all t =
        record {
          size = sym (length-take-le end out going_inside) ∙ ap length lines;
          room = subst (λ (k : ℕ). end ≤ k) going.same_out going_inside;
          start = lines;
          rest = going.rest;
        }
      where
        lines : take end out ≡ record_lines list (chain list total) starting
        lines =
            let n : i ≤ total = going.some in
            let z : total - i ≡ 0 = omega arith in
            sym (append-nil (take end out))
            ∙ ap (λ (k : ℕ). take end out ++ record_lines list (records next at k) (bench s m b)) (sym z)
            ∙ going.joined

    pub going_ends : total ≤ i → Ends list total end
    going_ends t =
        let n : i ≤ total = going.some in
        let e : i ≡ total = omega arith in
        subst (λ (k : ℕ). Ends list k end) e going.ends

    pub going_fits : (w : ℕ) → w ≤ longest → end + w < 2 ^ 64
    going_fits w l =
        let n : i ≤ total = going.some in
        let e : end ≤ i * longest = going.ends.long in
        let f : total ≤ 255 = total_few list total ready.whole in
        omega arith

    module _ (h : i < total) where
      on_record : IsRecord (count list record_bytes) at
      on_record =
          subst (IsRecord (count list record_bytes)) (sym going.placed) ((whole list total ready.whole (omega arith)).on i h)

      pub going_reach : Reach list at b (take (length out - end) (drop end out))
      going_reach =
          let c = chained list total ready.whole (omega arith) in
          let f : total ≤ 255 = total_few list total ready.whole in
          let r = room_line list (length out₀) i end ready.wide going.ends (omega arith) in
          let o : length out ≡ length out₀ = going.same_out in
          let few : length list ≤ most_bytes = c.few in
          let u : 1 ≤ at = on_record.0 in
          let v : at ≤ length list / record_bytes = on_record.1 in
          let b0 : length b₀ ≡ buffer_bytes = ap length ready.buffer ∙ length-replicate {A = ℕ} buffer_bytes 0 in
          record {
            from = u;
            inside = omega arith;
            small = omega arith;
            room = going.same_buffer ∙ b0;
            wide = simp (length-take, length-drop) (omega arith);
          }

      module _ (s' : Store) (m' b' part : List ℕ) (w n : ℕ)
          (lined : Lined list at (bench s m b) (bench s' m' b') (take (length out - end) (drop end out)) part w n)
          (long : w ≤ longest) (short : (code_of (record_in list at) ≡ 5 → ⊥) → w ≤ brief) (km : length m' ≡ length m) (kb : length b' ≡ length b)
          (kp : length part ≡ length (mid_of end (length out - end) out)) where
        abbrev after : List ℕ
        after = put_mid end (length out - end) out part

        abbrev p : Performed
        p = performed (record_in list at) (bench s m b)

        ahead : record_lines list (records next at (total - i)) (bench s m b)
            ≡ record_line list at p ++ record_lines list (records next n (total - (i + 1))) (bench s' m' b')
        unfolding record_lines records
        ahead =
            ap (λ (k : ℕ). record_lines list (records next at k) (bench s m b)) one_more
            ∙ ap₂ (λ (k : ℕ) (d : Bench). record_line list at p ++ record_lines list (records next k (total - (i + 1))) d)
            (sym lined.named) (sym lined.left)
          where
            one_more : total - i ≡ suc (total - (i + 1))
            one_more = omega arith

        pub going_more : Going list total m₀ b₀ out₀ s' m' b' after n (i + 1) (end + w)
        going_more =
            record {
              some = omega arith;
              placed = lined.named ∙ ap next going.placed ∙ sym (reached_more next 1 i);
              joined =
                  ap (λ (l : List ℕ). l ++ record_lines list (records next n (total - (i + 1))) (bench s' m' b'))
                  (part_start out part (record_line list at p) end w going_inside lined.line kp)
                  ∙ append_assoc (take end out) (record_line list at p) (record_lines list (records next n (total - (i + 1))) (bench s' m' b'))
                  ∙ ap (λ (l : List ℕ). take end out ++ l) (sym ahead) ∙ going.joined;
              ends =
                  ends_more list i end w going.ends long
                  (λ q. short (quiet_at list q at on_record.0 on_record.1));
              same_memory = km ∙ going.same_memory;
              same_buffer = kb ∙ going.same_buffer;
              same_out = same_len_mid end (length out - end) out part kp ∙ going.same_out;
              rest =
                  part_rest out part (record_line list at p) end w going_inside lined.line kp ∙ sym (drop-drop w end out)
                  ∙ ap (drop w) going.rest ∙ drop-drop w end out₀;
            }
