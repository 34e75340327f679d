-- Lists of calls on an image, each on the image and the memory that the one before it left.
--     RanOn              the replies of a list, and the image and the memory at its end
--     followed_by r n     the reply r, and then the list's
--     run_on xs b m       the list of the calls xs from the image b and the memory m on
--     imaged_run n        a run of steps, the store at its end as its image
--     places_on xs b m    the parts that the looks of the list tell, in their order, each on the image and the memory that it
--                        gets; they are not in the replies, which have the bytes
--     held b m           the store that an image holds, with its memory
--     left_on xs b m      the same of what a list leaves
--     refused_with n      the reply of a refusal with n; image and memory are those given
-- Statements:
--     ListsAreRuns       on an image that holds a store a list gives and leaves what the run of steps on that store does, so
--                        what is proved of runs, condition 3 with it, holds on images
--     PlacesAreRuns      and the looks of the list tell the parts that they tell along that run
--     ImagesAgree        condition 3's conclusions, for the list xs on the images b and d with the memories m and n:
--       replies, places    the replies are equal, call by call, and the looks tell the same parts
--       good_first, good_second    the images left hold stores
--       alike              in these, with the memories left, every other record is equal, the cluster's table, and every byte
--                          outside the cluster's segments
--       others             the bytes of every segment of another cluster are equal
--       held_first, held_second    the cluster's record and segment bytes are in each what they were at the start
--     TwoImages          condition 3 of images: where the stores that two images hold, with their memories, differ only in
--                        one cluster's secrets, and no call presents a handle that opens it, they agree so
--     WritersOnImages    document 02, §7, of images: where the stores that two images hold, with their memories, have in common
--                        what writers may know, and no call that asks for reading presents a handle that opens the cluster
--                        for it, the replies of a list are equal and its looks tell the same parts, and the images left hold
--                        stores that have that in common again
--     FrozenOnImages     document 02, §3, of images: a segment that is present and frozen in the store that an image
--                        holds is fixed after any list of calls, in the store and the memory that are left; and the image
--                        left holds a store
--     FromThenOnImages ..    segment i of the cluster of node v and local number l is present in the store that the image
--                        holds, and with the base and the length that it has there it is fixed after the list
--     FrozenFromThenOn   document 02's own sentence, of images: a freeze that is done, and then any list; the bytes are
--                        those that the segment had before the freeze
--     LengthRefused      a call with a handle that has none of the three lengths is refused with 25, on every image, one that
--                        holds no store too, and nothing changes
--     DamagedRefused     on an image that holds no store every other call but weakening is refused with 1, and nothing changes
--     RefusalLeaves      a call whose number is not 0 gives nothing else, and leaves image, memory and buffer as they were
-- Assumes nothing.
use Rattle.std.specs.Prelude.{◌≡◌, ◌≢◌, true, false, List, [], ◌∷◌, map, ℕ, ◌<◌, length, get_or}
use Rattle.sizes.specs.Sizes.{nodes, clusters, segments}
use Rattle.handle.specs.Handles.{node_of}
use Rattle.handle.specs.Conversion.{product}
use Rattle.bits.specs.Bytes.{Bytes}
use Rattle.store.specs.Places.{present_at}
use Rattle.store.specs.Records.{record_of, table_at, place_on}
use Rattle.calls.specs.declared.Part.{Part}
use Rattle.calls.specs.Looks.{Looked}
use Rattle.calls.specs.Calls.{Copy, Call, Arguments, call, weaken, freeze, is_look, handle_of, buffer}
use Rattle.calls.specs.Words.{BadLength}
use Rattle.calls.specs.Steps.{Reply, Ran, plain, run, aes_step}
use Rattle.calls.specs.Answers.{copy_of}
use Rattle.isolation.specs.Copies.{SoundCopy, InPlace, set_apart, Alike, Held, AllShut, also, places}
use Rattle.isolation.specs.Writers.{SameToWriters, NoReader}
use Rattle.isolation.specs.Frozen.{place_at, frozen_at, Fixed}
use Rattle.image.specs.Images.{image_bytes, good, store_in, image_of}
use Rattle.gelmuszta.specs.Exported.{Exported, exported, exported_part}
use Rattle.gelmuszta.specs.Fits.{AllFit}

pub record RanOn : Type 0 where
  pub replies : List Reply
  pub image : List ℕ
  pub memory : List ℕ

abbrev pub followed_by : Reply → RanOn → RanOn
followed_by r n = record { replies = r ∷ n.replies; image = n.image; memory = n.memory }

abbrev pub run_on : List Call → List ℕ → List ℕ → RanOn
run_on [] b m = record { replies = []; image = b; memory = m }
run_on (x ∷ xs) b m = followed_by (exported x b m).reply (run_on xs (exported x b m).image (exported x b m).memory)

abbrev pub places_on : List Call → List ℕ → List ℕ → List Part
places_on [] b m = []
places_on (x ∷ xs) b m =
    also (is_look x.kind) (exported_part x b (length m)) (places_on xs (exported x b m).image (exported x b m).memory)

abbrev pub imaged_run : Ran → RanOn
imaged_run n = record { replies = n.replies; image = image_of n.copy.store; memory = n.copy.memory }

abbrev pub ListsAreRuns : Type 0
ListsAreRuns =
    (xs : List Call) (b m : List ℕ) → AllFit xs → Bytes image_bytes b → good b ≡ true
    → run_on xs b m ≡ imaged_run (run product xs (copy_of (store_in b) m))

abbrev pub PlacesAreRuns : Type 0
PlacesAreRuns =
    (xs : List Call) (b m : List ℕ) → AllFit xs → Bytes image_bytes b → good b ≡ true
    → places_on xs b m ≡ map (λ (l : Looked). l.part) (places product xs (copy_of (store_in b) m))

abbrev pub held : List ℕ → List ℕ → Copy
held b m = copy_of (store_in b) m

abbrev pub left_on : List Call → List ℕ → List ℕ → Copy
left_on xs b m = held (run_on xs b m).image (run_on xs b m).memory

pub record ImagesAgree (node local : ℕ) (xs : List Call) (b m d n : List ℕ) : Type 0 where
  pub replies : (run_on xs b m).replies ≡ (run_on xs d n).replies
  pub places : places_on xs b m ≡ places_on xs d n
  pub good_first : good (run_on xs b m).image ≡ true
  pub good_second : good (run_on xs d n).image ≡ true
  pub alike : Alike node local (left_on xs b m) (left_on xs d n)
  pub others : (v l i p : ℕ) → v < nodes → l < clusters → i < segments → record_of v l ≢ set_apart node local
      → InPlace v (place_on (table_at (left_on xs b m).store) v l i) p
      → get_or (left_on xs b m).memory p 0 ≡ get_or (left_on xs d n).memory p 0
  pub held_first : Held node local (held b m) (left_on xs b m)
  pub held_second : Held node local (held d n) (left_on xs d n)

abbrev pub TwoImages : Type 0
TwoImages =
    (node local : ℕ) → node < nodes → local < clusters → (xs : List Call) (b m d n : List ℕ) → AllFit xs
    → Bytes image_bytes b → good b ≡ true → Bytes image_bytes d → good d ≡ true
    → SoundCopy (held b m) → SoundCopy (held d n)
    → (table_at (store_in b) (set_apart node local)).active ≡ true → Alike node local (held b m) (held d n)
    → AllShut node local product xs (held b m) → AllShut node local product xs (held d n)
    → ImagesAgree node local xs b m d n

pub record ImagesUntold (node local : ℕ) (xs : List Call) (b m d n : List ℕ) : Type 0 where
  pub replies : (run_on xs b m).replies ≡ (run_on xs d n).replies
  pub places : places_on xs b m ≡ places_on xs d n
  pub good_first : good (run_on xs b m).image ≡ true
  pub good_second : good (run_on xs d n).image ≡ true
  pub same : SameToWriters node local (left_on xs b m) (left_on xs d n)

abbrev pub WritersOnImages : Type 0
WritersOnImages =
    (node local : ℕ) → node < nodes → local < clusters → (xs : List Call) (b m d n : List ℕ) → AllFit xs
    → Bytes image_bytes b → good b ≡ true → Bytes image_bytes d → good d ≡ true
    → SoundCopy (held b m) → SoundCopy (held d n) → SameToWriters node local (held b m) (held d n)
    → NoReader node local product aes_step xs (held b m) → NoReader node local product aes_step xs (held d n)
    → ImagesUntold node local xs b m d n

pub record FixedOn (v l i base size : ℕ) (xs : List Call) (b m : List ℕ) : Type 0 where
  pub good : good (run_on xs b m).image ≡ true
  pub fixed : Fixed v l i base size (held b m) (left_on xs b m)

abbrev pub FrozenOnImages : Type 0
FrozenOnImages =
    (v l i base size : ℕ) → v < 4 → l < 8 → i < 16 → (xs : List Call) (b m : List ℕ) → AllFit xs
    → Bytes image_bytes b → good b ≡ true → SoundCopy (held b m)
    → place_at (store_in b) v l i ≡ present_at base size → frozen_at (store_in b) v l i ≡ true
    → FixedOn v l i base size xs b m

pub record FromThenOnImages (v l i : ℕ) (xs : List Call) (b m : List ℕ) : Type 0 where
  pub present : (base : ℕ) × (size : ℕ) × (place_at (store_in b) v l i ≡ present_at base size)
  pub fixed : (base size : ℕ) → place_at (store_in b) v l i ≡ present_at base size → FixedOn v l i base size xs b m

-- that it is done says that the image holds a store
abbrev pub FrozenFromThenOn : Type 0
FrozenFromThenOn =
    (g : Arguments) (xs : List Call) (b m : List ℕ) → let x = call freeze g in
    AllFit xs → Bytes image_bytes b → (exported x b m).reply.number ≡ 0
    → FromThenOnImages (node_of (handle_of x)) (handle_of x).local g.segment (x ∷ xs) b m

abbrev pub refused_with : ℕ → Call → List ℕ → List ℕ → Exported
refused_with n x b m = record { reply = plain n (buffer x); image = b; memory = m }

abbrev pub DamagedRefused : Type 0
DamagedRefused =
    (x : Call) (b m : List ℕ) → x.kind ≢ weaken → ¬ BadLength x → good b ≡ false → exported x b m ≡ refused_with 1 x b m

abbrev pub LengthRefused : Type 0
LengthRefused =
    (x : Call) (b m : List ℕ) → Bytes image_bytes b → BadLength x → exported x b m ≡ refused_with 25 x b m

abbrev pub RefusalLeaves : Type 0
RefusalLeaves =
    (x : Call) (b m : List ℕ) → Bytes image_bytes b → (exported x b m).reply.number ≢ 0
    → exported x b m ≡ refused_with (exported x b m).reply.number x b m
