-- What a call done has shown: no row of the table applied to it. So its place exists, its fields are good, and each handle
-- that it presents is not gapped, names an active cluster and validates in the mode needed.
-- Assumes nothing.
use mathlib.Core.Path.{◌≡◌, refl, sym, ap, ◌∙◌}
use mathlib.Core.Logic.{◌≢◌, ◌⊎◌}
use Prim.Native.Nat.{ℕ, ◌≤◌}
use native.Mathlib.Omega.{arith}
use mathlib.Core.Bool.{true, false, ◌||◌, true≢false}
use mathlib.Core.List.{List}
use mathlib.Core.Option.{Option, none, some}
use lib.Dec.{eqb}
use lib.ListN.{length}
use borrow.Author.Tests.{ltb-false}
use Rattle.handle.specs.Selectors.{gapped}
use Rattle.handle.specs.declared.Handle.{Handle}
use Rattle.handle.specs.Handles.{Name, node_of, width_of, no_width}
use Rattle.store.specs.declared.Store.{Store}
use Rattle.store.specs.Records.{table_at, read_mode, write_mode, length_of}
use Rattle.numbers.specs.Numbers.{no_room_number}
use Rattle.store.specs.Placement.{placed_at, new_base, placement}
use Rattle.calls.specs.Calls.{Call, call, Arguments, new_cluster, new_segment, write, opens}
use Rattle.calls.specs.Calls.{needed, handle_of, node_for, local_for, record_for, record_named, place_for}
use Rattle.calls.specs.Numbers.{bad_length, unsound, no_place, bad_mode, bad_segment, bad_size, bad_width, bad_field, gapped_handle, join_apart, elsewhere}
use Rattle.calls.specs.Numbers.{in_use, twins, inactive_cluster, other_width, valid, violated, join_whole, not_primary, not_referenced, at}
use Rattle.calls.specs.Numbers.{cluster_frozen, old_password}
use Rattle.calls.specs.Numbers.{segment_present, segment_absent, segment_frozen, short, full_node, empty_handle, spent_handle, rows, number}
use Rattle.calls.specs.Steps.{new_base_for}
use Rattle.calls.specs.Clear.{Clear}
use Rattle.calls.proofs.FirstLaws.{first_clear}
use Rattle.calls.proofs.CallLaws.{or_left, or_right, Presents, opened, InRange, in_range, handle_range, mode_known}
use Rattle.calls.proofs.CallLaws.{record_is, known_is, ungapped_is, active_is, wide_is, valid_is}

-- what placement tells, where it does not tell that there is no room
placed : (o : Option ℕ) → eqb (placed_at o).number no_room_number ≡ false → o ≡ some (placed_at o).base
placed none e = absurd (true≢false e)
placed (some b) e = refl

module _ (f : Name → List ℕ → ℕ → List ℕ) where
  -- no row of the table applies, row by row
  pub record NoRow (x : Call) (s : Store) (size : ℕ) : Type 0 where
    pub bad_length : bad_length x ≡ false
    pub unsound : unsound size x s ≡ false
    pub no_place : no_place x ≡ false
    pub bad_field : bad_field x ≡ false
    pub gapped_handle : gapped_handle x ≡ false
    pub join_apart : join_apart x ≡ false
    pub elsewhere : elsewhere x ≡ false
    pub in_use : in_use x (table_at s) ≡ false
    pub twins : twins x ≡ false
    pub inactive_cluster : inactive_cluster x (table_at s) ≡ false
    pub other_width : other_width x (table_at s) ≡ false
    pub violated : violated f x s ≡ false
    pub join_whole : join_whole x ≡ false
    pub not_primary : not_primary x ≡ false
    pub cluster_frozen : cluster_frozen x (table_at s) ≡ false
    pub not_referenced : not_referenced x ≡ false
    pub old_password : old_password x s ≡ false
    pub segment_present : segment_present x (table_at s) ≡ false
    pub segment_absent : segment_absent x (table_at s) ≡ false
    pub segment_frozen : segment_frozen x (table_at s) ≡ false
    pub short : short x (table_at s) ≡ false
    pub full_node : full_node x (table_at s) ≡ false
    pub empty_handle : empty_handle x ≡ false
    pub spent_handle : spent_handle x ≡ false

  module _ (x : Call) (s : Store) (size : ℕ) where
    from_clear : Clear (at x s (rows f size)) → NoRow x s size
    from_clear r =
        record {
          bad_length = search;
          unsound = search;
          no_place = search;
          bad_field = search;
          gapped_handle = search;
          join_apart = search;
          elsewhere = search;
          in_use = search;
          twins = search;
          inactive_cluster = search;
          other_width = search;
          violated = search;
          join_whole = search;
          not_primary = search;
          cluster_frozen = search;
          not_referenced = search;
          old_password = search;
          segment_present = search;
          segment_absent = search;
          segment_frozen = search;
          short = search;
          full_node = search;
          empty_handle = search;
          spent_handle = search;
        }

    pub no_row : number f x s size ≡ 0 → NoRow x s size
    unfolding number
    no_row e = from_clear (first_clear (at x s (rows f size)) (omega arith) e)

  module _ (x : Call) (s : Store) (size : ℕ) (e : number f x s size ≡ 0) where
    abbrev r : NoRow x s size
    r = no_row x s size e

    pub done_range : InRange (node_for x) (local_for x)
    done_range = in_range x r.no_place

    pub done_mode : (needed x ≡ read_mode) ⊎ (needed x ≡ write_mode)
    done_mode = mode_known x r.bad_field

    pub done_segment : bad_segment x ≡ false
    unfolding bad_field
    done_segment =
        or_right (bad_mode x) (bad_segment x)
        (or_left (bad_mode x || bad_segment x) (bad_size x)
        (or_left (bad_mode x || bad_segment x || bad_size x) (bad_width x) r.bad_field))

    pub done_width : bad_width x ≡ false
    unfolding bad_field
    done_width = or_right (bad_mode x || bad_segment x || bad_size x) (bad_width x) r.bad_field

    -- of each handle that it presents
    module _ (h : Handle) (i : Presents x h) where
      pub each_known : no_width h ≡ false
      each_known = known_is x h i r.bad_length

      pub each_range : InRange (node_of h) h.local
      each_range = handle_range x h i r.no_place

      pub each_even : gapped (width_of h) h.selector ≡ false
      each_even = ungapped_is x h i r.gapped_handle

      pub each_active : opens x.kind ≡ true → (table_at s (record_named h)).active ≡ true
      each_active o = active_is x h i o (table_at s) r.inactive_cluster

      pub each_wide : opens x.kind ≡ true → width_of h ≡ (table_at s (record_named h)).width
      each_wide o = wide_is x h i o (table_at s) r.other_width

      pub each_valid : opens x.kind ≡ true → valid f (needed x) h s ≡ true
      each_valid o = valid_is x h i o f s r.violated

    module _ (o : opens x.kind ≡ true) where
      pub done_even : gapped (width_of (handle_of x)) (handle_of x).selector ≡ false
      done_even = each_even (handle_of x) (opened x o).presents

      pub done_active : (table_at s (record_for x)).active ≡ true
      done_active =
          ap (λ (n : ℕ). (table_at s n).active) (record_is x o) ∙ each_active (handle_of x) (opened x o).presents o

      -- the handle has the width of its cluster
      pub done_wide : width_of (handle_of x) ≡ (table_at s (record_for x)).width
      done_wide =
          each_wide (handle_of x) (opened x o).presents o ∙ ap (λ (n : ℕ). (table_at s n).width) (sym (record_is x o))

      pub done_valid : valid f (needed x) (handle_of x) s ≡ true
      done_valid = each_valid (handle_of x) (opened x o).presents o

  -- ---- by kind

  module _ (g : Arguments) (s : Store) (size : ℕ) where
    -- the cluster that a new cluster takes was inactive
    pub new_away : number f (call new_cluster g) s size ≡ 0 → (n : ℕ) → (table_at s n).active ≡ true
        → record_for (call new_cluster g) ≢ n
    unfolding in_use
    new_away e n active q =
        true≢false
        (sym active ∙ ap (λ (k : ℕ). (table_at s k).active) (sym q) ∙ (no_row (call new_cluster g) s size e).in_use)

    pub new_base_lem : number f (call new_segment g) s size ≡ 0
        → new_base (table_at s) (node_for (call new_segment g)) g.size ≡ some (new_base_for (call new_segment g) (table_at s))
    unfolding full_node placement
    new_base_lem e =
        placed (new_base (table_at s) (node_for (call new_segment g)) g.size)
        (no_row (call new_segment g) s size e).full_node

    pub write_long : number f (call write g) s size ≡ 0
        → length_of (place_for (call write g) (table_at s)) ≤ length g.bytes
    unfolding short
    write_long e =
        ltb-false (length g.bytes) (length_of (place_for (call write g) (table_at s)))
        (no_row (call write g) s size e).short
