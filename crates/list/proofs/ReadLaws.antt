-- A read tells a length that its buffer has: it is refused where the buffer is shorter than the segment. Other calls
-- tell none.
-- Assumes nothing.
use mathlib.Core.Path.{◌≡◌, refl}
use Prim.Native.Nat.{ℕ, zero, suc, ◌≤◌}
use native.Mathlib.Omega.{arith}
use mathlib.Core.Bool.{Bool, true, false}
use mathlib.Core.List.{List}
use mathlib.Core.Option.{Option, none, some}
use borrow.Author.Tests.{ltb-false}
use lib.ListN.{length}
use Rattle.handle.specs.Handles.{first_of}
use Rattle.handle.specs.Conversion.{product}
use Rattle.store.specs.Records.{table_at, length_of}
use Rattle.calls.specs.Calls.{Copy, Kind, new_cluster, delete_cluster, new_segment, delete_segment, read, write, weaken}
use Rattle.calls.specs.Calls.{reduce, new_password, freeze, join, validate, look, Call, call, place_for}
use Rattle.calls.specs.Numbers.{short, number}
use Rattle.calls.specs.Steps.{given, segment_read, segment_shown, outcome, step, aes_step}
use Rattle.calls.proofs.DoneLaws.{no_row}
use Rattle.list.specs.Records.{code_of, kind_of, arguments_of}
use Rattle.list.specs.Runs.{Bench, Performed, misfits, misfit_rows, refused, stepped, performed_as, performed}

abbrev chosen : Bool → Performed → Performed → Performed
chosen t p q = elim t [ true ↦ p | false ↦ q ]

module _ (r : List ℕ) (b : List ℕ) (c : Copy) where
  abbrev asks : Kind → Call
  asks k = call k (arguments_of k r b)

  done_told : (k : Kind) → number product (asks k) c.store (length c.memory) ≡ 0
      → (given product k (asks k) c).length ≤ length b
  unfolding given segment_read segment_shown short
  done_told new_cluster e = omega arith
  done_told delete_cluster e = omega arith
  done_told new_segment e = omega arith
  done_told delete_segment e = omega arith
  done_told read e =
      ltb-false (length b) (length_of (place_for (asks read) (table_at c.store)))
      (no_row product (asks read) c.store (length c.memory) e).short
  done_told write e = omega arith
  done_told weaken e = omega arith
  done_told reduce e = omega arith
  done_told new_password e = omega arith
  done_told freeze e = omega arith
  done_told join e = omega arith
  done_told validate e = omega arith
  done_told look e = omega arith

  step_told : (k : Kind) → (aes_step (asks k) c).reply.length ≤ length b
  unfolding step
  step_told k = go (number product (asks k) c.store (length c.memory)) refl
    where
      go : (n : ℕ) → number product (asks k) c.store (length c.memory) ≡ n → (outcome product n (asks k) c).reply.length ≤ length b
      go zero e = done_told k e
      go (suc n) e = omega arith

pub performed_told : (r : List ℕ) (b : Bench) → (performed r b).answer.length ≤ length b.buffer
unfolding performed
performed_told r b = go (kind_of (code_of r))
  where
    go : (o : Option Kind) → (performed_as o r b).answer.length ≤ length b.buffer
    go none = omega arith
    go (some k) = by (misfits k r)
      where
        by : (t : Bool)
            → (chosen t (refused (first_of (misfit_rows (call k (arguments_of k r b.buffer)) b.copy)) b) (stepped k (call k (arguments_of k r b.buffer)) b)).answer.length
            ≤ length b.buffer
        by true = omega arith
        by false = step_told r b.buffer b.copy k
