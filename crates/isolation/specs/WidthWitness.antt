-- Document 02, §8: condition 3, that readers alter nothing, that what is frozen stays and that writers learn nothing are not empty
-- for a cluster of four and for one of sixteen. What is computed of the lists of `WidthLists` and `WidthHolders`, for every
-- conversion f and both sorts v:
--     WidthsMet          the copies `one` and `two` and the list `tries` meet each hypothesis of condition 3, and the answers of
--                        the copy `one` are computed; so are places
--     WidthsTold         what condition 3 says of them: the other copy gives these answers and places too, and each has its
--                        passwords and bytes still
--     right_read          a read with the read primary handle of the copy `one`
--     WidthsBite         it is done on the copy `one`, refused with 9 on the copy `two`, and keyed; with the same password, a
--                        handle of 23 bytes and one of the other sort are not
--     WritesMet, WritesTold    the same of §7, the copies `one` and `mate` and the list `writes`: in the end the cluster's table and
--                        write password are equal
--     Strays             bytes that hold no handle name node 0 and local number 0, as zeros do; where that cluster is inactive no call
--                        with such bytes spies on it, and the starting copy refuses them with 25
--     ReadsMet           no call of the list `reads` presents a handle of the cluster that validates for writing, and the answers
--                        are computed
--     ReadsTold          what the theorem says of it: the cluster has its width, place, write password and bytes still
--     FrozenMet, FrozenTold    the freeze is done, and the answers are computed; in the end the segment is as it was, frozen, and
--                        the cluster is active
--     WidthTabled        the width is part of the table: copies that differ in the cluster's width alone are not alike, and not the
--                        same to writers
-- Assumes nothing.
use Rattle.std.specs.Prelude.{◌≡◌, ℕ, ◌<◌, true, false, List, [], ◌∷◌, get_or}
use Rattle.sizes.specs.Sizes.{memory}
use Rattle.handle.specs.Handles.{Name}
use Rattle.store.specs.Places.{present_at}
use Rattle.store.specs.Records.{cluster_at, table_at, read_mode}
use Rattle.calls.specs.Calls.{Copy, start, Call, reading}
use Rattle.calls.specs.Numbers.{number}
use Rattle.calls.specs.Steps.{step, run}
use Rattle.calls.specs.Literals.{sixteen, primary}
use Rattle.isolation.specs.Copies.{SixteenBytes, SoundCopy, Done, Alike, keyed, AllShut, NoWriter, places}
use Rattle.isolation.specs.Witness.{holding_of, Still}
use Rattle.isolation.specs.Writers.{SameToWriters, NoReader}
use Rattle.isolation.specs.Frozen.{place_at, frozen_at}
use Rattle.isolation.specs.WidthLists.{Sort, width, top, own, other, Cut, one, two, mate, told_places, cut_made, cut_shown}
use Rattle.isolation.specs.WidthLists.{tries, answers}
use Rattle.isolation.specs.WidthHolders.{writes, writes_answers, writes_places, reads, reads_answers, the_freeze, attempts}
use Rattle.isolation.specs.WidthHolders.{attempt_answers, strays, stray_answers}

abbrev pub right_read : (ℕ → ℕ → ℕ → List ℕ) → Call
right_read handle = reading 3 (handle 0 2 17) (8 ∷ 8 ∷ 8 ∷ 8 ∷ [])

pub record WidthTabled : Type 0 where
  pub alike : Alike 0 2 (holding_of 8 3 17 34 7) (holding_of 16 3 17 34 7) → ⊥
  pub same : SameToWriters 0 2 (holding_of 4 3 17 34 7) (holding_of 8 3 17 34 7) → ⊥

pub record Strays (f : Name → List ℕ → ℕ → List ℕ) : Type 0 where
  pub no_reader : NoReader 0 0 f (step f) strays start
  pub replies : (run f strays start).replies ≡ stray_answers

module _ (f : Name → List ℕ → ℕ → List ℕ) (v : Sort) where
  -- ---- condition 3

  pub record WidthsMet : Type 0 where
    pub sound_one : SoundCopy (one v)
    pub sound_two : SoundCopy (two v)
    pub active : (cluster_at (one v).store 2).active ≡ true
    pub wide : (cluster_at (one v).store 2).width ≡ width v
    pub alike : Alike 0 2 (one v) (two v)
    pub shut_one : AllShut 0 2 f (tries f v) (one v)
    pub shut_two : AllShut 0 2 f (tries f v) (two v)
    pub replies : (run f (tries f v) (one v)).replies ≡ answers f v
    pub places : places f (tries f v) (one v) ≡ told_places
    pub weak : SixteenBytes f → (c : Cut) → cut_made f c ≡ cut_shown f c

  pub record WidthsTold : Type 0 where
    pub replies : (run f (tries f v) (two v)).replies ≡ answers f v
    pub places : places f (tries f v) (two v) ≡ told_places
    pub still_one : Still (run f (tries f v) (one v)).copy 17 34 7
    pub still_two : Still (run f (tries f v) (two v)).copy 1 2 9

  pub record WidthsBite : Type 0 where
    pub done : number f (reading (top v) (own v 0 2 17) (8 ∷ 8 ∷ 8 ∷ 8 ∷ [])) (one v).store memory ≡ 0
    pub refused : number f (reading (top v) (own v 0 2 17) (8 ∷ 8 ∷ 8 ∷ 8 ∷ [])) (two v).store memory ≡ 9
    pub right : keyed 0 2 f read_mode (right_read (own v)) (one v).store ≡ true
    pub not_eight : keyed 0 2 f read_mode (right_read primary) (one v).store ≡ false
    pub not_other : keyed 0 2 f read_mode (right_read (other v)) (one v).store ≡ false

  -- ---- writers

  pub record WritesMet : Type 0 where
    pub sound_one : SoundCopy (one v)
    pub sound_mate : SoundCopy (mate v)
    pub same : SameToWriters 0 2 (one v) (mate v)
    pub no_reader_one : NoReader 0 2 f (step f) (writes v) (one v)
    pub no_reader_mate : NoReader 0 2 f (step f) (writes v) (mate v)
    pub replies : (run f (writes v) (one v)).replies ≡ writes_answers v
    pub places : places f (writes v) (one v) ≡ writes_places

  pub record WritesTold : Type 0 where
    pub replies : (run f (writes v) (mate v)).replies ≡ writes_answers v
    pub places : places f (writes v) (mate v) ≡ writes_places
    pub table : table_at (run f (writes v) (one v)).copy.store 2 ≡ table_at (run f (writes v) (mate v)).copy.store 2
    pub write : (cluster_at (run f (writes v) (one v)).copy.store 2).write
        ≡ (cluster_at (run f (writes v) (mate v)).copy.store 2).write

  -- ---- readers

  abbrev read_end : Copy
  read_end = (run f (reads v) (one v)).copy

  pub record ReadsMet : Type 0 where
    pub no_writer : NoWriter 0 2 f (reads v) (one v)
    pub replies : (run f (reads v) (one v)).replies ≡ reads_answers v

  pub record ReadsTold : Type 0 where
    pub wide : (cluster_at read_end.store 2).width ≡ width v
    pub place : place_at read_end.store 0 2 (top v) ≡ present_at 0 4
    pub write : (cluster_at read_end.store 2).write ≡ sixteen 34
    pub bytes : (p : ℕ) → p < 4 → get_or read_end.memory p 0 ≡ 7

  -- ---- what is frozen

  abbrev frozen_end : Copy
  frozen_end = (run f (the_freeze v ∷ attempts v) (one v)).copy

  pub record FrozenMet : Type 0 where
    pub done : Done f (the_freeze v) (one v)
    pub replies : (run f (the_freeze v ∷ attempts v) (one v)).replies ≡ attempt_answers

  pub record FrozenTold : Type 0 where
    pub active : (cluster_at frozen_end.store 2).active ≡ true
    pub place : place_at frozen_end.store 0 2 (top v) ≡ present_at 0 4
    pub frozen : frozen_at frozen_end.store 0 2 (top v) ≡ true
    pub bytes : (p : ℕ) → p < 4 → get_or frozen_end.memory p 0 ≡ 7
