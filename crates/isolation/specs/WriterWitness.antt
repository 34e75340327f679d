-- That writers learn nothing is not empty, and it bites: what is computed of the lists of `WriterLists`, for every conversion f.
--     Met xs             the copies `ours` and `theirs` and the list xs meet each hypothesis of §7
--     WritersList        the long list and the list `marks` do, and the answers of the copy `ours` are computed
--     end c              the copy that the long list leaves, begun on the copy c
--     WritersUntold      what the theorem says of them: the other copy gives these answers and places too; in the end the records
--                        3 and 10 of the other clusters are equal, and a byte of a segment of each, and this cluster's table and
--                        write password
--     right_read, right_look, right_check    a read, a look and a validation with the read handle of the copy `ours`
--     WritersBite        on two copies that differ in the cluster's bytes alone the read and the look give these; on two that
--                        differ in its read password alone all three are done on the one and refused with 9 on the other; and
--                        these are the calls that spy
-- Assumes nothing.
use Rattle.std.specs.Prelude.{◌≡◌, ℕ, List, [], ◌∷◌, get_or}
use Rattle.handle.specs.Handles.{Name}
use Rattle.store.specs.Records.{cluster_at, table_at}
use Rattle.calls.specs.Calls.{Copy, Call, reading, validating, looking}
use Rattle.calls.specs.Steps.{step, run}
use Rattle.calls.specs.Literals.{primary, none, told, shows}
use Rattle.isolation.specs.Copies.{SoundCopy, places}
use Rattle.isolation.specs.Writers.{SameToWriters, Spies, NoReader}
use Rattle.isolation.specs.WriterLists.{keeping, ours, theirs, marks, marks_answers, told_places, whole_list, answers}

abbrev pub right_read : Call
right_read = reading 4 (primary 0 2 17) (8 ∷ 8 ∷ 8 ∷ [])

abbrev pub right_look : Call
right_look = looking 0 4 (primary 0 2 17)

abbrev pub right_check : Call
right_check = validating 1 (primary 0 2 17)

module _ (f : Name → List ℕ → ℕ → List ℕ) where
  pub record Met (xs : List Call) : Type 0 where
    pub sound_ours : SoundCopy ours
    pub sound_theirs : SoundCopy theirs
    pub same : SameToWriters 0 2 ours theirs
    pub no_reader_ours : NoReader 0 2 f (step f) xs ours
    pub no_reader_theirs : NoReader 0 2 f (step f) xs theirs

  pub record WritersList : Type 0 where
    pub met : Met (whole_list f)
    pub replies : (run f (whole_list f) ours).replies ≡ answers f
    pub places : places f (whole_list f) ours ≡ told_places
    pub marks_met : Met marks
    pub marks_replies : (run f marks ours).replies ≡ marks_answers

  abbrev pub end : Copy → Copy
  end c = (run f (whole_list f) c).copy

  pub record WritersUntold : Type 0 where
    pub replies : (run f (whole_list f) theirs).replies ≡ answers f
    pub places : places f (whole_list f) theirs ≡ told_places
    pub marks_replies : (run f marks theirs).replies ≡ marks_answers
    pub record_3 : cluster_at (end ours).store 3 ≡ cluster_at (end theirs).store 3
    pub record_10 : cluster_at (end ours).store 10 ≡ cluster_at (end theirs).store 10
    pub byte_4 : get_or (end ours).memory 4 0 ≡ get_or (end theirs).memory 4 0
    pub byte_4098 : get_or (end ours).memory 4098 0 ≡ get_or (end theirs).memory 4098 0
    pub table : table_at (end ours).store 2 ≡ table_at (end theirs).store 2
    pub write : (cluster_at (end ours).store 2).write ≡ (cluster_at (end theirs).store 2).write

  pub record WritersBite : Type 0 where
    pub same : (r s b c y z : ℕ) → SameToWriters 0 2 (keeping r b y) (keeping s c z)
    pub read_bytes : (b : ℕ) → (step f right_read (keeping 17 b 5)).reply ≡ told 0 none none 0 2 (b ∷ b ∷ 8 ∷ [])
    pub look_bytes : (b : ℕ) → (step f right_look (keeping 17 b 5)).reply ≡ shows 0 (b ∷ b ∷ [])
    pub check_done : (step f right_check (keeping 17 7 5)).reply ≡ told 0 none none 0 0 []
    pub read_refused : (step f right_read (keeping 1 7 5)).reply ≡ told 9 none none 0 0 (8 ∷ 8 ∷ 8 ∷ [])
    pub look_refused : (step f right_look (keeping 1 7 5)).reply ≡ shows 9 []
    pub check_refused : (step f right_check (keeping 1 7 5)).reply ≡ told 9 none none 0 0 []
    pub spies_read : Spies 0 2 f right_read ours.store
    pub spies_look : Spies 0 2 f right_look ours.store
    pub spies_check : Spies 0 2 f right_check ours.store
