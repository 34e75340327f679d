-- Document 01, "Numbers a call may be turned down with": the rows 1 to 17, and document 02's 21 to 25, a test for each, in
-- the order in which they are looked at; 22 and 25 stand in two places. Where a row names call 5, a look is meant too, except in
-- row 15; and a look has row 5. Call 10 has the rows that document 01 gives to call 4. Of call 11 rows 2, 4, 8, 9
-- and 25 apply if they apply to either of its handles. What is looked at of a handle goes by its own width. Row 12 is as document 02 narrows it.
--     bad_length            25: a handle's length is none of the three
--     unsound              1, all but 7: the store is not sound
--     no_place              2: a node above 3 or a local number above 7, in a handle or in the call
--     bad_field             3: bad_mode, not 1 or 2; bad_segment, at or above the handle's width; bad_size, 0 or above 4,096;
--                          bad_width, not 4, 8 or 16
--     gapped_handle         4: a handle's selector is gapped
--     join_apart            24, for 11: the two names of node and cluster differ
--     elsewhere            5, for 2, 3, 4, 10 and a look: the current node is not the handle's
--     in_use                6, for 1: the cluster is active
--     twins                7, for 1: the two passwords are equal
--     inactive_cluster      8, for 2 to 6, 8 to 11: a handle's cluster is inactive
--     other_width           25, for 2 to 6, 8 to 11: a handle's width is not its cluster's
--     violated             9, for 2 to 6, 8 to 11: a handle does not validate in the mode needed
--     join_whole            23, for 11: the union of what either handle references is all of the width
--     not_primary           10, for 2, 3, 4, 9, 10: some subselector is not flat
--     cluster_frozen        22, for 2: some segment of the cluster is frozen
--     not_referenced        11, for 5, 6: the handle does not reference the segment
--     old_password          12, for 9: the new password equals the current one of the mode named
--     segment_present       13, for 3: the segment is present
--     segment_absent        14, for 4, 5, 6, 10: the segment is absent
--     segment_frozen        22, for 4, 6: the segment is frozen
--     short                15, for 5, 6: the buffer or the data is shorter than the segment; a look brings neither
--     full_node             16, for 3: no base exists
--     empty_handle          21, for 7: no segment is both referenced and kept by the mask
--     spent_handle          17, for 7: something would be excluded and no subselector is flat
-- A row is made from a test by what the test may see: the call alone, the call and the clusters' tables, or the whole
-- records. None sees a byte of the memory.
--     Line, at x s ls      a row before it is known of which call and store; the rows of the lines ls at these
--     by_call n t, by_tables n t, by_records n t    the row with the number n and the test t, at a call and a store
--     rows f size          the rows in that order, for a slice of that many bytes
--     number f x s size    the number that the call x gets: that of the first row that applies, or 0
--     tests, other_tests    names that open the tests of all rows at once, and of all but row 9
-- Over a conversion f, which takes a cluster's name, a password and a parameter to a password:
--     valid f m h s        the handle h validates in the mode m; one of another width than its cluster's does not
-- Assumes nothing.
use Rattle.std.specs.Prelude.{ℕ, Bool, not, ◌&&◌, ◌||◌, List, [], ◌∷◌, map, eqb, leb, ltb, length}
use Rattle.sizes.specs.Sizes.{nodes, clusters, node_memory}
use Rattle.handle.specs.declared.Handle.{Handle}
use Rattle.handle.specs.Selectors.{references, all_flat, gapped, keeps_none, spent, whole_union}
use Rattle.handle.specs.Handles.{Name, name_of, same_name, width_of, no_width, same_password, no_such_place, Row, first_of}
use Rattle.handle.specs.Handles.{validates}
use Rattle.store.specs.declared.Store.{Store}
use Rattle.store.specs.Records.{Tables, cluster_at, table_at, none_frozen, read_mode, write_mode, length_of, primary_of}
use Rattle.store.specs.Sound.{is_absent, is_width, sound}
use Rattle.numbers.specs.Numbers.{no_room_number}
use Rattle.store.specs.Placement.{placement}
use Rattle.calls.specs.Calls.{Call, among, is_look, opens, uses, needed}
use Rattle.calls.specs.Calls.{handle_of, other_of, presented, any_of, buffer, node_for, record_for, record_named}
use Rattle.calls.specs.Calls.{place_for, frozen_for}

-- ---- tests of the call alone

unfoldable pub bad_length : Call → Bool
bad_length x = any_of no_width (presented x)

unfoldable pub no_place : Call → Bool
no_place x =
    any_of no_such_place (presented x)
    || (uses x.kind).current && leb nodes x.args.current
    || (uses x.kind).local && leb clusters x.args.local

unfoldable pub bad_mode : Call → Bool
bad_mode x = (uses x.kind).mode && not (eqb x.args.mode read_mode || eqb x.args.mode write_mode)

unfoldable pub bad_segment : Call → Bool
bad_segment x = (uses x.kind).segment && leb (width_of (handle_of x)) x.args.segment

unfoldable pub bad_size : Call → Bool
bad_size x = (uses x.kind).size && (eqb x.args.size 0 || ltb node_memory x.args.size)

unfoldable pub bad_width : Call → Bool
bad_width x = (uses x.kind).width && not (is_width x.args.width)

unfoldable pub bad_field : Call → Bool
bad_field x = bad_mode x || bad_segment x || bad_size x || bad_width x

unfoldable pub gapped_handle : Call → Bool
gapped_handle x = any_of (λ h. gapped (width_of h) h.selector) (presented x)

unfoldable pub join_apart : Call → Bool
join_apart x = among (11 ∷ []) x.kind && not (same_name (handle_of x) (other_of x))

unfoldable pub elsewhere : Call → Bool
elsewhere x =
    (among (2 ∷ 3 ∷ 4 ∷ 10 ∷ []) x.kind || is_look x.kind) && not (eqb x.args.current (node_for x))

unfoldable pub twins : Call → Bool
twins x = among (1 ∷ []) x.kind && same_password x.args.first x.args.second

unfoldable pub join_whole : Call → Bool
join_whole x =
    among (11 ∷ []) x.kind && whole_union (width_of (handle_of x)) (handle_of x).selector (other_of x).selector

unfoldable pub not_primary : Call → Bool
not_primary x =
    among (2 ∷ 3 ∷ 4 ∷ 9 ∷ 10 ∷ []) x.kind && any_of (λ h. not (all_flat (width_of h) h.selector)) (presented x)

unfoldable pub not_referenced : Call → Bool
not_referenced x = among (5 ∷ 6 ∷ []) x.kind && not (references (handle_of x).selector x.args.segment)

unfoldable pub empty_handle : Call → Bool
empty_handle x =
    among (7 ∷ []) x.kind && keeps_none (width_of (handle_of x)) x.args.mask (handle_of x).selector

unfoldable pub spent_handle : Call → Bool
spent_handle x =
    among (7 ∷ []) x.kind && spent (width_of (handle_of x)) x.args.mask (handle_of x).selector

-- ---- tests of the call and the tables

unfoldable pub in_use : Call → Tables → Bool
in_use x ts = among (1 ∷ []) x.kind && (ts (record_for x)).active

unfoldable pub inactive_cluster : Call → Tables → Bool
inactive_cluster x ts = opens x.kind && any_of (λ h. not (ts (record_named h)).active) (presented x)

unfoldable pub other_width : Call → Tables → Bool
other_width x ts =
    opens x.kind && any_of (λ h. not (eqb (width_of h) (ts (record_named h)).width)) (presented x)

unfoldable pub cluster_frozen : Call → Tables → Bool
cluster_frozen x ts = among (2 ∷ []) x.kind && not (none_frozen (ts (record_for x)))

unfoldable pub segment_present : Call → Tables → Bool
segment_present x ts = among (3 ∷ []) x.kind && not (is_absent (place_for x ts))

unfoldable pub segment_absent : Call → Tables → Bool
segment_absent x ts = among (4 ∷ 5 ∷ 6 ∷ 10 ∷ []) x.kind && is_absent (place_for x ts)

unfoldable pub segment_frozen : Call → Tables → Bool
segment_frozen x ts = among (4 ∷ 6 ∷ []) x.kind && frozen_for x ts

unfoldable pub short : Call → Tables → Bool
short x ts =
    (among (5 ∷ 6 ∷ []) x.kind && not (is_look x.kind)) && ltb (length (buffer x)) (length_of (place_for x ts))

unfoldable pub full_node : Call → Tables → Bool
full_node x ts = among (3 ∷ []) x.kind && eqb (placement ts (node_for x) x.args.size).number no_room_number

-- ---- tests of the records

unfoldable pub unsound : ℕ → Call → Store → Bool
unsound size x s = not (among (7 ∷ []) x.kind) && not (sound s size)

unfoldable pub old_password : Call → Store → Bool
old_password x s =
    among (9 ∷ []) x.kind
    && same_password x.args.first (primary_of (cluster_at s (record_for x)) x.args.mode)

-- ---- the table

abbrev pub Line : Type 0
Line = Call → Store → Row

abbrev pub at : Call → Store → List Line → List Row
at x s ls = map (λ (l : Line). l x s) ls

abbrev pub by_call : ℕ → (Call → Bool) → Line
by_call n t x s = record { number = n; applies = t x }

abbrev pub by_tables : ℕ → (Call → Tables → Bool) → Line
by_tables n t x s = record { number = n; applies = t x (table_at s) }

abbrev pub by_records : ℕ → (Call → Store → Bool) → Line
by_records n t x s = record { number = n; applies = t x s }

module _ (f : Name → List ℕ → ℕ → List ℕ) where
  unfoldable pub valid : ℕ → Handle → Store → Bool
  valid mode h s =
      eqb (width_of h) (cluster_at s (record_named h)).width
      && validates (width_of h) (f (name_of h)) (primary_of (cluster_at s (record_named h)) mode) h

  unfoldable pub violated : Call → Store → Bool
  violated x s = opens x.kind && any_of (λ h. not (valid (needed x) h s)) (presented x)

  abbrev pub rows : ℕ → List Line
  rows size =
      by_call 25 bad_length
      ∷ by_records 1 (unsound size)
      ∷ by_call 2 no_place
      ∷ by_call 3 bad_field
      ∷ by_call 4 gapped_handle
      ∷ by_call 24 join_apart
      ∷ by_call 5 elsewhere
      ∷ by_tables 6 in_use
      ∷ by_call 7 twins
      ∷ by_tables 8 inactive_cluster
      ∷ by_tables 25 other_width
      ∷ by_records 9 violated
      ∷ by_call 23 join_whole
      ∷ by_call 10 not_primary
      ∷ by_tables 22 cluster_frozen
      ∷ by_call 11 not_referenced
      ∷ by_records 12 old_password
      ∷ by_tables 13 segment_present
      ∷ by_tables 14 segment_absent
      ∷ by_tables 22 segment_frozen
      ∷ by_tables 15 short
      ∷ by_tables 16 full_node
      ∷ by_call 21 empty_handle
      ∷ by_call 17 spent_handle
      ∷ []

  unfoldable pub number : Call → Store → ℕ → ℕ
  number x s size = first_of (at x s (rows size))

unfoldable pub other_tests : Unit {0}
unfolding bad_length unsound no_place bad_mode bad_segment bad_size bad_width bad_field gapped_handle join_apart elsewhere in_use
    twins inactive_cluster other_width join_whole not_primary cluster_frozen not_referenced old_password segment_present segment_absent segment_frozen short full_node empty_handle spent_handle
other_tests = tt

unfoldable pub tests : Unit {0}
unfolding other_tests valid violated
tests = tt
