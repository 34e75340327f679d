-- Document 02, §8: the numbers that widths bring, as computed lists, on a store with a cluster of each width. Handles are
-- written out. The conversion adds both bytes of its parameter to the first byte, without carry, and gives sixteen such
-- bytes.
--     folded                that conversion
--     mixed                 the store. Node 1 has a cluster of four, local number 2, with sixteen 3 and sixteen 4; one of
--                           eight, 4, with 5 and 6; one of sixteen, 5, with 7 and 8. Their last segments, 3, 7 and 15, are
--                           the three bytes at 0, the two at 3 and the four at 5. All other clusters are inactive
--     short l b s           the 21 bytes of a handle of node 1, local number l and sixteen bytes b: the first byte of its
--                           selector is s, so that the low half of s is subselector 0 and the high half subselector 1
--     middle l b s          its 23 bytes, with s for subselector 0
--     long l b s t          its 27 bytes, with s and t for the high and the low byte of subselector 0
--     cut_to n               n bytes that begin as a handle of the cluster of four does
--     lengths               lengths that are none of the three
--     any_length x           25 for the call that x makes of a handle, by each of these lengths
--     wrong_lengths          every call that takes a handle, by its first handle, by its second, and by both
--     damaged               1 for handles of all three lengths, and for call 1 whatever the width; not for weakening
--     others                25 for every call that opens a cluster, by handles of another width than the cluster's, which
--                           would validate otherwise; not for weakening
--     any_width              3 for call 1, by widths that are none of the three
--     fields                these; 3 for a segment at the handle's width, and not for the one below it
--     numbers               4, 10, 11, 21, 17 and 23 at the handle's width
--     told_by s size cs      the numbers that the calls of the cases cs get
--     WidthsGiven           all these are given: those of wrong lengths on every store and slice, the others on that store
-- Assumes nothing.
use Rattle.std.specs.Prelude.{◌≡◌, ℕ, ◌+◌, ◌/◌, ◌%◌, List, [], ◌∷◌, ◌++◌, map, get_or, replicate, take}
use Rattle.handle.specs.Handles.{Name}
use Rattle.store.specs.Places.{present_at}
use Rattle.store.specs.declared.Store.{Store}
use Rattle.store.specs.Records.{starting_store, started, put_record, with_place}
use Rattle.calls.specs.Calls.{Call, making_cluster, deleting_cluster, making_segment, deleting_segment, reading}
use Rattle.calls.specs.Calls.{writing, weakening_by, reducing, renewing, freezing, joining, validating, looking}
use Rattle.calls.specs.Numbers.{number}
use Rattle.calls.specs.Cases.{Case, gives, calls, named}
use Rattle.calls.specs.Literals.{sixteen, handle, primary, small, large}

abbrev pub folded : Name → List ℕ → ℕ → List ℕ
folded n p c = replicate 16 ((get_or p 0 0 + c / 256 + c % 256) % 256)

-- records 10, 12 and 13
abbrev pub mixed : Store
mixed =
    put_record
    (put_record
    (put_record starting_store 10 (with_place (started 4 (sixteen 3) (sixteen 4)) 3 (present_at 0 3)))
    12
    (with_place (started 8 (sixteen 5) (sixteen 6)) 7 (present_at 3 2)))
    13
    (with_place (started 16 (sixteen 7) (sixteen 8)) 15 (present_at 5 4))

-- ---- handles that are not primary

abbrev pub short : ℕ → ℕ → ℕ → List ℕ
short l b s = handle 1 l b (s ∷ 255 ∷ [])

abbrev pub middle : ℕ → ℕ → ℕ → List ℕ
middle l b s = handle 1 l b (s ∷ 255 ∷ 255 ∷ 255 ∷ [])

abbrev pub long : ℕ → ℕ → ℕ → ℕ → List ℕ
long l b s t = handle 1 l b (s ∷ t ∷ 255 ∷ 255 ∷ 255 ∷ 255 ∷ 255 ∷ 255 ∷ [])

-- ---- 25 in its first place

abbrev pub cut_to : ℕ → List ℕ
cut_to n = take n (handle 1 2 4 (replicate 29 255))

abbrev pub lengths : List ℕ
lengths = 0 ∷ 1 ∷ 19 ∷ 20 ∷ 22 ∷ 24 ∷ 25 ∷ 26 ∷ 28 ∷ 48 ∷ []

abbrev any_length : (List ℕ → Call) → List Case
any_length x = map (λ (n : ℕ). gives 25 (x (cut_to n))) lengths

abbrev pub wrong_lengths : List Case
wrong_lengths =
    any_length (λ h. deleting_cluster 1 h)
    ++ (any_length (λ h. making_segment 1 2 2 h)
    ++ (any_length (λ h. deleting_segment 1 3 h)
    ++ (any_length (λ h. reading 3 h (0 ∷ 0 ∷ 0 ∷ []))
    ++ (any_length (λ h. writing 3 h (0 ∷ 0 ∷ 0 ∷ []))
    ++ (any_length (λ h. weakening_by 1 h)
    ++ (any_length (λ h. reducing 2 h)
    ++ (any_length (λ h. renewing 2 h (sixteen 9))
    ++ (any_length (λ h. freezing 1 3 h)
    ++ (any_length (λ h. joining 2 h (short 2 5 241))
    ++ (any_length (λ h. joining 2 (short 2 5 241) h)
    ++ (any_length (λ h. joining 2 h h)
    ++ (any_length (λ h. validating 2 h)
    ++ any_length (λ h. looking 1 3 h)))))))))))))

abbrev pub damaged : List Case
damaged =
    gives 1 (making_cluster 1 3 4 (sixteen 1) (sixteen 2))
    ∷ gives 1 (making_cluster 1 3 16 (sixteen 1) (sixteen 2))
    ∷ gives 1 (making_cluster 1 3 5 (sixteen 1) (sixteen 2))
    ∷ gives 1 (deleting_cluster 1 (small 1 2 4))
    ∷ gives 1 (making_segment 1 14 2 (large 1 5 8))
    ∷ gives 1 (deleting_segment 1 3 (small 1 2 4))
    ∷ gives 1 (reading 15 (large 1 5 7) (0 ∷ 0 ∷ 0 ∷ 0 ∷ []))
    ∷ gives 1 (writing 7 (primary 1 4 6) (0 ∷ 0 ∷ []))
    ∷ gives 0 (weakening_by 1 (small 1 2 3))
    ∷ gives 0 (weakening_by 1 (large 1 5 7))
    ∷ gives 1 (reducing 1 (small 1 2 3))
    ∷ gives 1 (renewing 1 (large 1 5 7) (sixteen 9))
    ∷ gives 1 (freezing 1 3 (small 1 2 4))
    ∷ gives 1 (joining 1 (short 2 4 241) (short 2 11 248))
    ∷ gives 1 (validating 1 (large 1 5 7))
    ∷ gives 1 (looking 1 7 (primary 1 4 5))
    -- of another width than the cluster's
    ∷ gives 1 (reading 3 (primary 1 2 3) (0 ∷ 0 ∷ 0 ∷ []))
    ∷ gives 1 (validating 1 (small 1 5 7))
    ∷ gives 1 (joining 1 (short 2 4 241) (middle 2 11 8))
    ∷ []

-- ---- 25 in its second place

abbrev pub others : List Case
others =
    gives 25 (deleting_cluster 1 (primary 1 2 4))
    ∷ gives 25 (deleting_cluster 1 (large 1 2 4))
    ∷ gives 25 (deleting_cluster 1 (small 1 4 6))
    ∷ gives 25 (deleting_cluster 1 (large 1 4 6))
    ∷ gives 25 (deleting_cluster 1 (small 1 5 8))
    ∷ gives 25 (deleting_cluster 1 (primary 1 5 8))
    ∷ gives 25 (making_segment 1 2 2 (primary 1 2 4))
    ∷ gives 25 (making_segment 1 2 2 (large 1 4 6))
    ∷ gives 25 (making_segment 1 2 2 (small 1 5 8))
    ∷ gives 25 (deleting_segment 1 3 (large 1 2 4))
    ∷ gives 25 (deleting_segment 1 7 (large 1 4 6))
    ∷ gives 25 (deleting_segment 1 3 (primary 1 5 8))
    ∷ gives 25 (reading 3 (primary 1 2 3) (0 ∷ 0 ∷ 0 ∷ []))
    ∷ gives 25 (reading 3 (middle 2 11 8) (0 ∷ 0 ∷ 0 ∷ []))
    ∷ gives 25 (reading 3 (long 2 11 0 8) (0 ∷ 0 ∷ 0 ∷ []))
    ∷ gives 25 (reading 7 (large 1 4 5) (0 ∷ 0 ∷ []))
    ∷ gives 25 (reading 3 (small 1 5 7) (0 ∷ 0 ∷ 0 ∷ 0 ∷ []))
    ∷ gives 25 (writing 3 (large 1 2 4) (0 ∷ 0 ∷ 0 ∷ []))
    ∷ gives 25 (writing 7 (long 4 134 0 128) (0 ∷ 0 ∷ []))
    ∷ gives 25 (writing 7 (primary 1 5 8) (0 ∷ 0 ∷ 0 ∷ 0 ∷ []))
    ∷ gives 25 (reducing 1 (primary 1 2 3))
    ∷ gives 25 (reducing 1 (short 4 13 248))
    ∷ gives 25 (reducing 2 (middle 5 136 128))
    ∷ gives 25 (renewing 1 (large 1 2 3) (sixteen 9))
    ∷ gives 25 (renewing 2 (small 1 4 6) (sixteen 9))
    ∷ gives 25 (renewing 2 (primary 1 5 8) (sixteen 9))
    ∷ gives 25 (freezing 1 3 (primary 1 2 4))
    ∷ gives 25 (freezing 1 7 (large 1 4 6))
    ∷ gives 25 (freezing 1 7 (primary 1 5 8))
    ∷ gives 25 (validating 1 (primary 1 2 3))
    ∷ gives 25 (validating 2 (long 2 12 0 8))
    ∷ gives 25 (validating 1 (small 1 4 5))
    ∷ gives 25 (validating 2 (large 1 4 6))
    ∷ gives 25 (validating 1 (short 5 15 248))
    ∷ gives 25 (validating 2 (primary 1 5 8))
    ∷ gives 25 (looking 1 3 (middle 2 11 8))
    ∷ gives 25 (looking 1 3 (small 1 4 5))
    ∷ gives 25 (looking 1 7 (primary 1 5 7))
    -- joins: the first alone, the second alone, both
    ∷ gives 25 (joining 1 (middle 2 4 1) (short 2 11 248))
    ∷ gives 25 (joining 1 (short 2 4 241) (middle 2 11 8))
    ∷ gives 25 (joining 1 (middle 2 4 1) (middle 2 11 8))
    ∷ gives 25 (joining 2 (short 4 7 241) (middle 4 134 128))
    ∷ gives 25 (joining 2 (middle 4 7 1) (long 4 134 0 128))
    ∷ gives 25 (joining 2 (short 4 7 241) (long 4 134 0 128))
    ∷ gives 25 (joining 1 (middle 5 8 1) (long 5 135 128 0))
    ∷ gives 25 (joining 1 (long 5 135 128 0) (short 5 8 241))
    ∷ gives 25 (joining 1 (short 5 8 241) (middle 5 135 128))
    -- weakening looks at no cluster
    ∷ gives 0 (weakening_by 1 (primary 1 2 3))
    ∷ gives 0 (weakening_by 8 (long 2 11 0 8))
    ∷ gives 0 (weakening_by 1 (small 1 4 5))
    ∷ gives 0 (weakening_by 1 (large 1 4 5))
    ∷ gives 0 (weakening_by 1 (small 1 5 7))
    ∷ gives 0 (weakening_by 1 (primary 1 5 7))
    ∷ gives 0 (weakening_by 1 (small 1 3 0))
    -- of the cluster's width the same calls are done
    ∷ gives 0 (validating 1 (short 2 11 248))
    ∷ gives 0 (validating 2 (middle 4 134 128))
    ∷ gives 0 (validating 1 (long 5 135 128 0))
    ∷ []

-- ---- 3 by a segment and by a width

abbrev any_width : List Case
any_width =
    map (λ (w : ℕ). gives 3 (making_cluster 1 3 w (sixteen 1) (sixteen 2)))
    (0 ∷ 1 ∷ 2 ∷ 3 ∷ 5 ∷ 6 ∷ 7 ∷ 9 ∷ 12 ∷ 15 ∷ 17 ∷ 32 ∷ 260 ∷ 264 ∷ 272 ∷ 65540 ∷ [])

abbrev pub fields : List Case
fields =
    any_width
    ++ (gives 0 (making_cluster 1 3 4 (sixteen 1) (sixteen 2))
    ∷ gives 0 (making_cluster 1 3 8 (sixteen 1) (sixteen 2))
    ∷ gives 0 (making_cluster 1 3 16 (sixteen 1) (sixteen 2))
    ∷ gives 3 (making_segment 1 4 2 (small 1 2 4))
    ∷ gives 13 (making_segment 1 3 2 (small 1 2 4))
    ∷ gives 0 (making_segment 1 2 2 (small 1 2 4))
    ∷ gives 3 (making_segment 1 8 2 (primary 1 4 6))
    ∷ gives 13 (making_segment 1 7 2 (primary 1 4 6))
    ∷ gives 3 (making_segment 1 16 2 (large 1 5 8))
    ∷ gives 13 (making_segment 1 15 2 (large 1 5 8))
    ∷ gives 0 (making_segment 1 14 2 (large 1 5 8))
    ∷ gives 3 (deleting_segment 1 4 (small 1 2 4))
    ∷ gives 0 (deleting_segment 1 3 (small 1 2 4))
    ∷ gives 3 (deleting_segment 1 8 (primary 1 4 6))
    ∷ gives 0 (deleting_segment 1 7 (primary 1 4 6))
    ∷ gives 3 (deleting_segment 1 16 (large 1 5 8))
    ∷ gives 0 (deleting_segment 1 15 (large 1 5 8))
    ∷ gives 3 (reading 4 (small 1 2 3) (0 ∷ 0 ∷ 0 ∷ []))
    ∷ gives 0 (reading 3 (small 1 2 3) (0 ∷ 0 ∷ 0 ∷ []))
    ∷ gives 3 (reading 8 (primary 1 4 5) (0 ∷ 0 ∷ []))
    ∷ gives 0 (reading 7 (primary 1 4 5) (0 ∷ 0 ∷ []))
    ∷ gives 3 (reading 16 (large 1 5 7) (0 ∷ 0 ∷ 0 ∷ 0 ∷ []))
    ∷ gives 0 (reading 15 (large 1 5 7) (0 ∷ 0 ∷ 0 ∷ 0 ∷ []))
    ∷ gives 3 (writing 4 (small 1 2 4) (0 ∷ 0 ∷ 0 ∷ []))
    ∷ gives 0 (writing 3 (small 1 2 4) (0 ∷ 0 ∷ 0 ∷ []))
    ∷ gives 3 (writing 8 (primary 1 4 6) (0 ∷ 0 ∷ []))
    ∷ gives 0 (writing 7 (primary 1 4 6) (0 ∷ 0 ∷ []))
    ∷ gives 3 (writing 16 (large 1 5 8) (0 ∷ 0 ∷ 0 ∷ 0 ∷ []))
    ∷ gives 0 (writing 15 (large 1 5 8) (0 ∷ 0 ∷ 0 ∷ 0 ∷ []))
    ∷ gives 3 (freezing 1 4 (small 1 2 4))
    ∷ gives 0 (freezing 1 3 (small 1 2 4))
    ∷ gives 3 (freezing 1 8 (primary 1 4 6))
    ∷ gives 0 (freezing 1 7 (primary 1 4 6))
    ∷ gives 3 (freezing 1 16 (large 1 5 8))
    ∷ gives 0 (freezing 1 15 (large 1 5 8))
    ∷ gives 3 (looking 1 4 (small 1 2 3))
    ∷ gives 0 (looking 1 3 (small 1 2 3))
    ∷ gives 3 (looking 1 8 (primary 1 4 5))
    ∷ gives 0 (looking 1 7 (primary 1 4 5))
    ∷ gives 3 (looking 1 16 (large 1 5 7))
    ∷ gives 0 (looking 1 15 (large 1 5 7))
    ∷ [])

-- ---- other numbers, at the handle's width

abbrev pub numbers : List Case
numbers =
    -- 4: a flat subselector below one that is not
    gives 4 (validating 1 (handle 1 2 3 (239 ∷ 255 ∷ [])))
    ∷ gives 4 (reading 3 (handle 1 2 3 (255 ∷ 254 ∷ [])) (0 ∷ 0 ∷ 0 ∷ []))
    ∷ gives 4 (weakening_by 1 (handle 1 2 3 (255 ∷ 127 ∷ [])))
    ∷ gives 4 (reducing 1 (handle 1 5 7 (255 ∷ 255 ∷ 127 ∷ 255 ∷ 255 ∷ 255 ∷ 255 ∷ 255 ∷ [])))
    ∷ gives 4 (deleting_cluster 1 (handle 1 5 8 (255 ∷ 255 ∷ 255 ∷ 255 ∷ 255 ∷ 255 ∷ 255 ∷ 254 ∷ [])))
    ∷ gives 4 (weakening_by 1 (handle 1 5 7 (255 ∷ 255 ∷ 0 ∷ 255 ∷ 255 ∷ 255 ∷ 255 ∷ 255 ∷ [])))
    -- a low byte of 255 makes no subselector flat
    ∷ gives 9 (validating 1 (long 5 8 0 255))
    ∷ gives 0 (validating 1 (long 5 6 0 255))
    -- 10
    ∷ gives 10 (deleting_cluster 1 (short 2 12 248))
    ∷ gives 10 (making_segment 1 2 2 (short 2 18 254))
    ∷ gives 10 (deleting_segment 1 15 (long 5 136 128 0))
    ∷ gives 10 (renewing 1 (short 2 11 248) (sixteen 9))
    ∷ gives 10 (renewing 1 (long 5 6 0 255) (sixteen 9))
    ∷ gives 10 (freezing 1 15 (long 5 7 0 255))
    -- 11, of segments that the handle's width has
    ∷ gives 11 (reading 3 (short 2 10 247) (0 ∷ 0 ∷ 0 ∷ []))
    ∷ gives 11 (reading 15 (long 5 6 0 255) (0 ∷ 0 ∷ 0 ∷ 0 ∷ []))
    ∷ gives 11 (looking 1 15 (long 5 6 0 255))
    -- 21, by bits below the width alone
    ∷ gives 21 (weakening_by 0 (small 1 2 3))
    ∷ gives 21 (weakening_by 65520 (small 1 2 3))
    ∷ gives 21 (weakening_by 65287 (short 2 11 248))
    ∷ gives 21 (weakening_by 65280 (primary 1 4 5))
    ∷ gives 21 (weakening_by 0 (large 1 5 7))
    ∷ gives 21 (weakening_by 32767 (long 5 135 128 0))
    ∷ gives 0 (weakening_by 65288 (small 1 2 3))
    ∷ gives 0 (weakening_by 32768 (large 1 5 7))
    -- 17, with nothing flat; and done where nothing would be excluded
    ∷ gives 17 (weakening_by 7 (handle 1 2 3 (238 ∷ 238 ∷ [])))
    ∷ gives 17 (weakening_by 65527 (handle 1 2 3 (238 ∷ 238 ∷ [])))
    ∷ gives 0 (weakening_by 14 (handle 1 2 3 (238 ∷ 238 ∷ [])))
    ∷ gives 17 (weakening_by 32767 (handle 1 5 7 (255 ∷ 254 ∷ 255 ∷ 253 ∷ 255 ∷ 251 ∷ 255 ∷ 247 ∷ [])))
    ∷ gives 0 (weakening_by 65520 (handle 1 5 7 (255 ∷ 254 ∷ 255 ∷ 253 ∷ 255 ∷ 251 ∷ 255 ∷ 247 ∷ [])))
    -- 23, where the union is all of the width; and not where the last segment is missing
    ∷ gives 23 (joining 1 (short 2 10 247) (short 2 11 248))
    ∷ gives 23 (joining 2 (small 1 2 4) (short 2 5 241))
    ∷ gives 0 (joining 1 (short 2 9 246) (short 2 4 241))
    ∷ gives 23 (joining 1 (middle 4 132 127) (middle 4 133 128))
    ∷ gives 0 (joining 1 (middle 4 131 126) (middle 4 6 1))
    ∷ gives 0 (joining 1 (middle 4 20 15) (middle 4 6 1))
    ∷ gives 23 (joining 1 (long 5 6 0 255) (long 5 6 255 0))
    ∷ gives 23 (joining 2 (long 5 135 127 0) (large 1 5 8))
    ∷ gives 0 (joining 1 (long 5 6 0 255) (long 5 134 127 0))
    ∷ gives 0 (joining 1 (long 5 6 0 255) (long 5 22 0 15))
    ∷ []

-- ---- all of these

abbrev pub told_by : Store → ℕ → List Case → List ℕ
told_by s size cs = map (λ (x : Call). number folded x s size) (calls cs)

pub record WidthsGiven : Type 0 where
  pub lengths : (s : Store) (size : ℕ) → told_by s size wrong_lengths ≡ named wrong_lengths
  pub damaged : told_by mixed 16383 damaged ≡ named damaged
  pub others : told_by mixed 16384 others ≡ named others
  pub fields : told_by mixed 16384 fields ≡ named fields
  pub numbers : told_by mixed 16384 numbers ≡ named numbers
