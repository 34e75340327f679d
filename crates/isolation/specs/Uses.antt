-- What each theorem gives for the copies and lists of `UseLists`, clause by clause: a field for each clause of the conclusion, read
-- off the theorem. Conversion, passwords, bytes and the number of rounds are open, and each width is meant: so passwords may be
-- equal, and lists empty or of any length. For every conversion f, each width v and n rounds:
--     TwoCopiesUses      condition 3. The first copy has one password p for both modes, the second q and s, and their segments'
--                        bytes are b, c and d, and k, l and m; the bytes of no segment, y and z, are equal
--     LeftUses           what it says of the two copies at the end, one and two
--     ReadersUses        readers alter nothing: the first of these copies
--     WritersUses        §7. The first copy has sixteen bytes 34 for both passwords, the second another read password s; the bytes
--                        of no segment are y and z, and x and t. With it, that copies which begin as §7 has it are so
-- And where no list is named, for any list, handle or password at all:
--     UntoldUses m a b   §6: what call 9 in the mode m tells of the copies a and b, and leaves of them
--     OtherUses          so it is of copies that differ in the write password, in mode 1, and in the read password, in mode 2; and of
--                        such copies that are not sound
--     FrozenUses         §3: what is frozen is as it was, after any list
--     FreezeUses         and after a freeze that is done: of segment 0, while the highest one is frozen already; and again: of the
--                        highest one
-- Assumes nothing.
use Rattle.std.specs.Prelude.{◌≡◌, ℕ, ◌+◌, ◌<◌, true, List, [], ◌∷◌, length, get_or}
use Rattle.handle.specs.Handles.{Name}
use Rattle.store.specs.Places.{present_at}
use Rattle.store.specs.Records.{table_of, cluster_at, table_at, primary_of}
use Rattle.calls.specs.Calls.{Copy, Call, renewing, freezing}
use Rattle.calls.specs.Steps.{step, run}
use Rattle.calls.specs.Literals.{sixteen}
use Rattle.isolation.specs.Copies.{places}
use Rattle.isolation.specs.Writers.{SameToWriters}
use Rattle.isolation.specs.Renewals.{Guess, guesses}
use Rattle.isolation.specs.Frozen.{place_at, frozen_at}
use Rattle.isolation.specs.UseLists.{Wide, top, own, beside, near, apart, records, keeping, repeated, shut, shut_answers, shut_places}
use Rattle.isolation.specs.UseLists.{writes, write_answers, write_places}

module _ (v : Wide) (p q s : List ℕ) (b c d k l m y z : ℕ) (one two : Copy) where
  pub record LeftUses : Type 0 where
    pub byte_of_none : get_or two.memory 12294 0 ≡ y
    pub byte_other_node : get_or two.memory 4 0 ≡ z
    pub other_byte : get_or two.memory 1 0 ≡ 6
    pub other_record : cluster_at two.store 3 ≡ beside
    pub near_byte : get_or two.memory 12296 0 ≡ 22
    pub near_record : cluster_at two.store 26 ≡ near
    pub table : table_at two.store 31 ≡ table_of (apart v p p)
    pub first_record : cluster_at one.store 31 ≡ apart v p p
    pub first_bytes_lem : (i : ℕ) → i < 4 → get_or one.memory (12288 + i) 0 ≡ b
    pub first_others : (get_or one.memory 12292 0 ≡ c) × (get_or one.memory 12293 0 ≡ d)
    pub second_record : cluster_at two.store 31 ≡ apart v q s
    pub second_bytes : (i : ℕ) → i < 4 → get_or two.memory (12288 + i) 0 ≡ k
    pub second_others : (get_or two.memory 12292 0 ≡ l) × (get_or two.memory 12293 0 ≡ m)
    pub records : length two.store.clusters ≡ 32
    pub size : length two.memory ≡ 16384

module _ (f : Name → List ℕ → ℕ → List ℕ) (v : Wide) where
  module _ (n : ℕ) where
    -- ---- condition 3, and readers

    module _ (p q s : List ℕ) (b c d k l m y z : ℕ) where
      abbrev first : Copy
      first = keeping v p p b c d y z

      abbrev second : Copy
      second = keeping v q s k l m y z

      abbrev end : Copy → Copy
      end x = (run f (repeated n shut) x).copy

      pub record TwoCopiesUses : Type 0 where
        pub replies : (run f (repeated n shut) second).replies ≡ repeated n shut_answers
        pub places : places f (repeated n shut) second ≡ repeated n shut_places
        pub left : LeftUses v p q s b c d k l m y z (end first) (end second)

    module _ (p : List ℕ) (b c d y z : ℕ) where
      abbrev read_end : Copy
      read_end = (run f (repeated n shut) (keeping v p p b c d y z)).copy

      pub record ReadersUses : Type 0 where
        pub table : table_at read_end.store 31 ≡ table_of (apart v p p)
        pub write : (cluster_at read_end.store 31).write ≡ p
        pub bytes : (i : ℕ) → i < 4 → get_or read_end.memory (12288 + i) 0 ≡ b
        pub others : (get_or read_end.memory 12292 0 ≡ c) × (get_or read_end.memory 12293 0 ≡ d)

    -- ---- §7

    module _ (s : List ℕ) (b c d y z k l m x t : ℕ) where
      abbrev ours : Copy
      ours = keeping v (sixteen 34) (sixteen 34) b c d y z

      abbrev theirs : Copy
      theirs = keeping v s (sixteen 34) k l m x t

      abbrev write_end : Copy
      write_end = (run f (repeated n (writes v)) theirs).copy

      pub record WritersUses : Type 0 where
        pub begun : SameToWriters 3 7 ours (keeping v s (sixteen 34) k l m y z)
        pub replies : (run f (repeated n (writes v)) theirs).replies ≡ repeated n (write_answers v)
        pub places : places f (repeated n (writes v)) theirs ≡ repeated n write_places
        pub records : length write_end.store.clusters ≡ 32
        pub other_record : cluster_at write_end.store 3 ≡ beside
        pub table : table_at write_end.store 31 ≡ table_of (apart v s (sixteen 34))
        pub write : (cluster_at write_end.store 31).write ≡ sixteen 34
        pub size : length write_end.memory ≡ 16384
        pub other_byte : get_or write_end.memory 1 0 ≡ 6
        pub near_record : cluster_at write_end.store 26 ≡ near
        pub near_byte : get_or write_end.memory 12296 0 ≡ 22

  -- ---- §6

  module _ (m : ℕ) (a b : Copy) (h p : List ℕ) (gs : List Guess) where
    abbrev renewed : Copy → Copy
    renewed x = (step f (renewing m h p) x).copy

    pub record UntoldUses : Type 0 where
      pub reply : (step f (renewing m h p) a).reply ≡ (step f (renewing m h p) b).reply
      pub active : (cluster_at (renewed a).store 31).active ≡ true
      pub others : cluster_at (renewed a).store 3 ≡ cluster_at (renewed b).store 3
      pub table : table_at (renewed a).store 31 ≡ table_at (renewed b).store 31
      pub own : primary_of (cluster_at (renewed a).store 31) m ≡ primary_of (cluster_at (renewed b).store 31) m
      pub memory : (renewed a).memory ≡ (renewed b).memory
      pub guessed : (run f (guesses m gs) a).replies ≡ (run f (guesses m gs) b).replies

  -- a copy with a slice of no bytes, which is not sound
  abbrev bare : List ℕ → List ℕ → Copy
  bare r w = record { store = records v r w; memory = [] }

  pub record OtherUses (r w u h p : List ℕ) (gs : List Guess) (b c d y z : ℕ) : Type 0 where
    pub reading : UntoldUses 1 (keeping v r w b c d y z) (keeping v r u b c d y z) h p gs
    pub writing : UntoldUses 2 (keeping v w r b c d y z) (keeping v u r b c d y z) h p gs
    pub unsound_reading : UntoldUses 1 (bare r w) (bare r u) h p gs
    pub unsound_writing : UntoldUses 2 (bare w r) (bare u r) h p gs

  -- ---- §3

  module _ (r w : List ℕ) (b c d y z : ℕ) (xs : List Call) where
    abbrev frozen_end : Copy
    frozen_end = (run f xs (keeping v r w b c d y z)).copy

    pub record FrozenUses : Type 0 where
      pub active : (cluster_at frozen_end.store 31).active ≡ true
      pub place : place_at frozen_end.store 3 7 (top v) ≡ present_at 0 4
      pub frozen : frozen_at frozen_end.store 3 7 (top v) ≡ true
      pub bytes : (i : ℕ) → i < 4 → get_or frozen_end.memory (12288 + i) 0 ≡ b

  module _ (r : List ℕ) (b c d y z : ℕ) (xs : List Call) where
    abbrev freezable : Copy
    freezable = keeping v r (sixteen 34) b c d y z

    abbrev freeze_end : Copy
    freeze_end = (run f (freezing 3 0 (own v 3 7 34) ∷ xs) freezable).copy

    abbrev again_end : Copy
    again_end = (run f (freezing 3 (top v) (own v 3 7 34) ∷ xs) freezable).copy

    pub record FreezeUses : Type 0 where
      pub present : (base : ℕ) × (size : ℕ) × (place_at freezable.store 3 7 0 ≡ present_at base size)
      pub active : (cluster_at freeze_end.store 31).active ≡ true
      pub place : place_at freeze_end.store 3 7 0 ≡ present_at 4 2
      pub frozen : frozen_at freeze_end.store 3 7 0 ≡ true
      pub bytes : (get_or freeze_end.memory 12292 0 ≡ c) × (get_or freeze_end.memory 12293 0 ≡ d)
      pub again_present : (base : ℕ) × (size : ℕ) × (place_at freezable.store 3 7 (top v) ≡ present_at base size)
      pub again_active : (cluster_at again_end.store 31).active ≡ true
      pub again_place : place_at again_end.store 3 7 (top v) ≡ present_at 0 4
      pub again_frozen : frozen_at again_end.store 3 7 (top v) ≡ true
      pub again_bytes : (i : ℕ) → i < 4 → get_or again_end.memory (12288 + i) 0 ≡ b
