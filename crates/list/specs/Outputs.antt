-- Document 01, "The list of calls", with codes 10 and 11 of document 02, written out: lists by numbers and whole outputs by
-- text, with no definition between.
--     sample_list, sample_text    the sample of document 01, its three records and its whole output
--     codes_list, codes_text      calls of the codes 1 to 9 done, one refused, a bad code, a data length of 33
--     frozen_list, frozen_text    a segment frozen, and again; written to, deleted, and its cluster deleted, all refused; a
--                               freeze of a segment that is absent; and it is read
--     joined_list, joined_text    joins of primary handles: with 23 in either mode, with 9 because of the second handle alone
--                               and of the first alone, with 24, with 3, and with 2 because of the second; the bytes that the
--                               first of them does not use are not zero. A join done converts, and is run and not computed
--     second l b                what stands from byte 32 on in these: the second handle, and bytes that are not used
--     full_list, full_text        a segment of the highest node, local number and number, as long as the node's memory, read
--     handled                   a record with the fields in its first eight bytes, the primary handle of node 1 and local
--                               number 4 with sixteen bytes b, and what stands where the passwords do
--     Printed, prints           a list and its whole output
--     lengths_list               a write to node 4 with a data length of 33, and a read whose byte 5 is 255
--     printed                   an empty list; lists refused for their length, some that are multiples of 32 and one of 256
--                               records among them; with 19 and with 20; bad codes in one record and in two; the last
--                               of 255 records; lengths_list
--     OutputsPrinted            they are the outputs
-- Assumes nothing.
use Rattle.std.specs.Prelude.{ℕ, ◌≡◌, List, [], ◌∷◌, ◌++◌, map, replicate}
use Prim.Native.String.{String}
use Rattle.lines.specs.Text.{ascii}
use Rattle.list.specs.Texts.{output}

abbrev pub sample_list : List ℕ
sample_list =
    -- record 1
    (3 ∷ 1 ∷ 0 ∷ 0 ∷ 2 ∷ 0 ∷ 0 ∷ 0 ∷ [])
    ++ replicate 24 0
    ++ replicate 16 0x11
    ++ replicate 16 0x22
    -- record 2
    ++ (0 ∷ 5 ∷ 0 ∷ 0 ∷ 5 ∷ 0 ∷ 0 ∷ 0 ∷ [])
    ++ (0 ∷ 0 ∷ 2 ∷ [])
    ++ replicate 16 0x11
    ++ replicate 4 0xff
    ++ replicate 33 0
    -- record 3
    ++ (2 ∷ 3 ∷ 0 ∷ 0 ∷ 5 ∷ 0 ∷ 0 ∷ 4 ∷ [])
    ++ (0 ∷ 0 ∷ 2 ∷ [])
    ++ replicate 16 0x22
    ++ replicate 4 0xff
    ++ replicate 33 0

abbrev pub sample_text : List ℕ
sample_text =
    ascii "1 1 0 00000211111111111111111111111111111111ffffffff 00000222222222222222222222222222222222ffffffff\n"
    ++ ascii "3 3 0\n"
    ++ ascii "2 5 0 00000000\n"
    ++ ascii "end 3\n"

abbrev handled : List ℕ → ℕ → List ℕ → List ℕ
handled fields b rest = fields ++ (0 ∷ 1 ∷ 4 ∷ []) ++ replicate 16 b ++ replicate 4 0xff ++ (0 ∷ []) ++ rest

abbrev pub codes_list : List ℕ
codes_list =
    (2 ∷ 1 ∷ 1 ∷ 0 ∷ 4 ∷ 0 ∷ 0 ∷ 0 ∷ [])
    ++ replicate 24 0
    ++ replicate 16 0x11
    ++ replicate 16 0x22
    ++ handled (3 ∷ 3 ∷ 1 ∷ 0 ∷ 6 ∷ 0 ∷ 0 ∷ 3 ∷ []) 0x22 (replicate 32 0)
    ++ handled (4 ∷ 6 ∷ 0 ∷ 0 ∷ 6 ∷ 4 ∷ 0 ∷ 0 ∷ []) 0x22 (0xde ∷ 0xad ∷ 0xbe ∷ 0xef ∷ replicate 28 0)
    ++ handled (5 ∷ 5 ∷ 0 ∷ 0 ∷ 6 ∷ 0 ∷ 0 ∷ 0 ∷ []) 0x11 (replicate 32 0)
    ++ handled (6 ∷ 7 ∷ 0 ∷ 0 ∷ 255 ∷ 0 ∷ 0 ∷ 0 ∷ []) 0x11 (replicate 32 0)
    ++ handled (7 ∷ 8 ∷ 0 ∷ 2 ∷ 0 ∷ 0 ∷ 0 ∷ 0 ∷ []) 0x22 (replicate 32 0)
    ++ handled (8 ∷ 9 ∷ 0 ∷ 1 ∷ 0 ∷ 0 ∷ 0 ∷ 0 ∷ []) 0x11 (replicate 16 0x33 ++ replicate 16 0)
    ++ handled (9 ∷ 5 ∷ 0 ∷ 0 ∷ 6 ∷ 0 ∷ 0 ∷ 0 ∷ []) 0x11 (replicate 32 0)
    ++ handled (10 ∷ 4 ∷ 1 ∷ 0 ∷ 6 ∷ 0 ∷ 0 ∷ 0 ∷ []) 0x22 (replicate 32 0)
    ++ handled (11 ∷ 2 ∷ 1 ∷ 0 ∷ 0 ∷ 0 ∷ 0 ∷ 0 ∷ []) 0x22 (replicate 32 0)
    ++ handled (12 ∷ 12 ∷ 0 ∷ 0 ∷ 0 ∷ 0 ∷ 0 ∷ 0 ∷ []) 0x22 (replicate 32 0)
    ++ handled (13 ∷ 6 ∷ 0 ∷ 0 ∷ 6 ∷ 33 ∷ 0 ∷ 0 ∷ []) 0x22 (replicate 32 0)
    ++ handled (0 ∷ 7 ∷ 0 ∷ 0 ∷ 0 ∷ 0 ∷ 0 ∷ 0 ∷ []) 0x22 (replicate 32 0)

abbrev pub codes_text : List ℕ
codes_text =
    ascii "1 1 0 00010411111111111111111111111111111111ffffffff 00010422222222222222222222222222222222ffffffff\n"
    ++ ascii "2 3 0\n"
    ++ ascii "3 6 0\n"
    ++ ascii "4 5 0 deadbe\n"
    ++ ascii "5 7 0 00010411111111111111111111111111111111ffffffff 8\n"
    ++ ascii "6 8 0 00010422222222222222222222222222222222ffffffff\n"
    ++ ascii "7 9 0 00010433333333333333333333333333333333ffffffff\n"
    ++ ascii "8 5 9\n"
    ++ ascii "9 4 0\n"
    ++ ascii "10 2 0\n"
    ++ ascii "11 12 3\n"
    ++ ascii "12 6 3\n"
    ++ ascii "13 7 21\n"
    ++ ascii "end 13\n"

abbrev pub frozen_list : List ℕ
frozen_list =
    (2 ∷ 1 ∷ 1 ∷ 0 ∷ 4 ∷ 0 ∷ 0 ∷ 0 ∷ [])
    ++ replicate 24 0
    ++ replicate 16 0x11
    ++ replicate 16 0x22
    ++ handled (3 ∷ 3 ∷ 1 ∷ 0 ∷ 6 ∷ 0 ∷ 0 ∷ 3 ∷ []) 0x22 (replicate 32 0)
    ++ handled (4 ∷ 6 ∷ 0 ∷ 0 ∷ 6 ∷ 4 ∷ 0 ∷ 0 ∷ []) 0x22 (0xde ∷ 0xad ∷ 0xbe ∷ 0xef ∷ replicate 28 0)
    ++ handled (5 ∷ 10 ∷ 1 ∷ 0 ∷ 6 ∷ 0 ∷ 0 ∷ 0 ∷ []) 0x22 (replicate 32 0)
    ++ handled (6 ∷ 10 ∷ 1 ∷ 0 ∷ 6 ∷ 0 ∷ 0 ∷ 0 ∷ []) 0x22 (replicate 32 0)
    ++ handled (7 ∷ 6 ∷ 0 ∷ 0 ∷ 6 ∷ 4 ∷ 0 ∷ 0 ∷ []) 0x22 (replicate 32 0)
    ++ handled (8 ∷ 4 ∷ 1 ∷ 0 ∷ 6 ∷ 0 ∷ 0 ∷ 0 ∷ []) 0x22 (replicate 32 0)
    ++ handled (9 ∷ 2 ∷ 1 ∷ 0 ∷ 0 ∷ 0 ∷ 0 ∷ 0 ∷ []) 0x22 (replicate 32 0)
    ++ handled (10 ∷ 10 ∷ 1 ∷ 0 ∷ 5 ∷ 0 ∷ 0 ∷ 0 ∷ []) 0x22 (replicate 32 0)
    ++ handled (0 ∷ 5 ∷ 0 ∷ 0 ∷ 6 ∷ 0 ∷ 0 ∷ 0 ∷ []) 0x11 (replicate 32 0)

abbrev pub frozen_text : List ℕ
frozen_text =
    ascii "1 1 0 00010411111111111111111111111111111111ffffffff 00010422222222222222222222222222222222ffffffff\n"
    ++ ascii "2 3 0\n"
    ++ ascii "3 6 0\n"
    ++ ascii "4 10 0\n"
    ++ ascii "5 10 0\n"
    ++ ascii "6 6 22\n"
    ++ ascii "7 4 22\n"
    ++ ascii "8 2 22\n"
    ++ ascii "9 10 14\n"
    ++ ascii "10 5 0 deadbe\n"
    ++ ascii "end 10\n"

abbrev second : ℕ → ℕ → List ℕ
second l b = (0 ∷ 1 ∷ l ∷ []) ++ replicate 16 b ++ replicate 4 0xff ++ replicate 9 0x77

abbrev pub joined_list : List ℕ
joined_list =
    (2 ∷ 1 ∷ 1 ∷ 0 ∷ 4 ∷ 0 ∷ 0 ∷ 0 ∷ [])
    ++ replicate 24 0
    ++ replicate 16 0x11
    ++ replicate 16 0x22
    ++ handled (3 ∷ 11 ∷ 9 ∷ 1 ∷ 9 ∷ 99 ∷ 9 ∷ 9 ∷ []) 0x11 (second 4 0x11)
    ++ handled (4 ∷ 11 ∷ 0 ∷ 2 ∷ 0 ∷ 0 ∷ 0 ∷ 0 ∷ []) 0x22 (second 4 0x22)
    ++ handled (5 ∷ 11 ∷ 0 ∷ 1 ∷ 0 ∷ 0 ∷ 0 ∷ 0 ∷ []) 0x11 (second 4 0x22)
    ++ handled (6 ∷ 11 ∷ 0 ∷ 1 ∷ 0 ∷ 0 ∷ 0 ∷ 0 ∷ []) 0x22 (second 4 0x11)
    ++ handled (7 ∷ 11 ∷ 0 ∷ 1 ∷ 0 ∷ 0 ∷ 0 ∷ 0 ∷ []) 0x11 (second 5 0x11)
    ++ handled (8 ∷ 11 ∷ 0 ∷ 3 ∷ 0 ∷ 0 ∷ 0 ∷ 0 ∷ []) 0x11 (second 4 0x11)
    ++ handled (0 ∷ 11 ∷ 0 ∷ 1 ∷ 0 ∷ 0 ∷ 0 ∷ 0 ∷ []) 0x11 (second 8 0x11)

abbrev pub joined_text : List ℕ
joined_text =
    ascii "1 1 0 00010411111111111111111111111111111111ffffffff 00010422222222222222222222222222222222ffffffff\n"
    ++ ascii "2 11 23\n"
    ++ ascii "3 11 23\n"
    ++ ascii "4 11 9\n"
    ++ ascii "5 11 9\n"
    ++ ascii "6 11 24\n"
    ++ ascii "7 11 3\n"
    ++ ascii "8 11 2\n"
    ++ ascii "end 8\n"

abbrev pub full_list : List ℕ
full_list =
    -- record 1
    (2 ∷ 1 ∷ 3 ∷ 0 ∷ 7 ∷ 0 ∷ 0 ∷ 0 ∷ [])
    ++ replicate 24 0
    ++ replicate 16 0x11
    ++ replicate 16 0x22
    -- record 2
    ++ (3 ∷ 3 ∷ 3 ∷ 0 ∷ 7 ∷ 0 ∷ 16 ∷ 0 ∷ [])
    ++ (0 ∷ 3 ∷ 7 ∷ [])
    ++ replicate 16 0x22
    ++ replicate 4 0xff
    ++ replicate 33 0
    -- record 3
    ++ (0 ∷ 5 ∷ 0 ∷ 0 ∷ 7 ∷ 0 ∷ 0 ∷ 0 ∷ [])
    ++ (0 ∷ 3 ∷ 7 ∷ [])
    ++ replicate 16 0x11
    ++ replicate 4 0xff
    ++ replicate 33 0

-- 48 is the digit 0
abbrev pub full_text : List ℕ
full_text =
    ascii "1 1 0 00030711111111111111111111111111111111ffffffff 00030722222222222222222222222222222222ffffffff\n"
    ++ ascii "2 3 0\n"
    ++ ascii "3 5 0 "
    ++ replicate 8192 48
    ++ ascii "\nend 3\n"

abbrev pub lengths_list : List ℕ
lengths_list =
    -- record 1
    (2 ∷ 6 ∷ 0 ∷ 0 ∷ 0 ∷ 33 ∷ 0 ∷ 0 ∷ [])
    ++ (0 ∷ 4 ∷ [])
    ++ replicate 54 0
    -- record 2
    ++ (0 ∷ 5 ∷ 0 ∷ 0 ∷ 0 ∷ 255 ∷ 0 ∷ 0 ∷ [])
    ++ replicate 56 0

pub record Printed : Type 0 where
  pub list : List ℕ
  pub text : String

abbrev prints : List ℕ → String → Printed
prints l s = record { list = l; text = s }

abbrev pub printed : List Printed
printed =
    prints [] "end 0\n"
    ∷ prints (0 ∷ []) "list 18\n"
    ∷ prints (replicate 63 0) "list 18\n"
    ∷ prints (replicate 65 0) "list 18\n"
    ∷ prints (replicate 96 0) "list 18\n"
    ∷ prints (replicate 160 0) "list 18\n"
    ∷ prints (replicate 16384 0) "list 18\n"
    ∷ prints (2 ∷ replicate 63 0) "list 19\n"
    ∷ prints (1 ∷ replicate 63 0) "list 20\n"
    ∷ prints (replicate 64 0) "1 0 3\nend 1\n"
    ∷ prints (2 ∷ replicate 127 0) "1 0 3\n2 0 3\nend 2\n"
    ∷ prints lengths_list "1 6 2\n2 5 8\nend 2\n"
    ∷ prints (255 ∷ replicate 16319 0) "1 0 3\n255 0 3\nend 2\n"
    ∷ []

pub record OutputsPrinted : Type 0 where
  pub sample : output sample_list ≡ sample_text
  pub codes : output codes_list ≡ codes_text
  pub frozen : output frozen_list ≡ frozen_text
  pub joined : output joined_list ≡ joined_text
  pub full : output full_list ≡ full_text
  pub others : map (λ (p : Printed). output p.list) printed ≡ map (λ (p : Printed). ascii p.text) printed
