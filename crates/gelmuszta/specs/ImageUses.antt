-- What the theorems about images give for the images of the copies of `isolation/specs/UseLists`, clause by clause, at the product's
-- conversion: a field for each clause of a conclusion. Of each width v, for n rounds of a list and any bytes of the segments.
--     Passwords          the passwords of a store: one for both modes, and two others, of which one shares the write password
--     image v p          the image of the store with the passwords p
--     memory b c d y z   the memory of such a copy
--     TwoImagesUses      condition 3, of the passwords `equal` and `others`: the replies and the places of the images; that the images
--                        left hold stores; and what the theorem says of these, with the memories left, in the uses of condition 3
--     WritersOnUses      §7, of the passwords `equal` and `another`; the bytes of no segment differ
--     FrozenOnUses       §3, after any list of calls whose passwords are of sixteen bytes
--     FrozenFromUses     and after a freeze that is done: of segment 0; and again: of the highest one, which is frozen already
--     LookUses           a look on an image: refused, on a damaged image and, from another node, on one that holds a store; on a damaged
--                        image, with a handle of no length, and done
-- Assumes nothing.
use Rattle.std.specs.Prelude.{◌≡◌, true, List, [], ◌∷◌, ◌++◌, ℕ, ◌+◌, ◌-◌, ◌<◌, ◌≤◌, length, get_or, take, drop, replicate}
use Rattle.store.specs.Places.{present_at}
use Rattle.store.specs.declared.Store.{Store}
use Rattle.store.specs.Records.{cluster_at, table_at}
use Rattle.calls.specs.declared.Part.{Part}
use Rattle.calls.specs.Calls.{Copy, Call, freezing, looking}
use Rattle.calls.specs.Literals.{sixteen, primary, handle, shows}
use Rattle.isolation.specs.Frozen.{place_at, frozen_at}
use Rattle.isolation.specs.UseLists.{Wide, top, own, records, low, high, repeated, shut, writes}
use Rattle.isolation.specs.Uses.{LeftUses}
use Rattle.image.specs.Images.{image_bytes, good, store_in, image_of}
use Rattle.gelmuszta.specs.Exported.{exported, exported_part}
use Rattle.gelmuszta.specs.Runs.{run_on, places_on, left_on}

pub data Passwords : Type 0 where
  equal others another : Passwords

abbrev pub reads : Passwords → ℕ
reads equal = 34
reads others = 1
reads another = 1

abbrev pub writing : Passwords → ℕ
writing equal = 34
writing others = 2
writing another = 34

abbrev pub store : Wide → Passwords → Store
store v p = records v (sixteen (reads p)) (sixteen (writing p))

abbrev pub image : Wide → Passwords → List ℕ
image v p = image_of (store v p)

abbrev pub memory : ℕ → ℕ → ℕ → ℕ → ℕ → List ℕ
memory b c d y z = low z ++ high b c d y

module _ (v : Wide) (n : ℕ) where
  module _ (b c d k l m y z : ℕ) where
    abbrev first : Copy
    first = left_on (repeated n shut) (image v equal) (memory b c d y z)

    abbrev second : Copy
    second = left_on (repeated n shut) (image v others) (memory k l m y z)

    pub record TwoImagesUses : Type 0 where
      pub replies : (run_on (repeated n shut) (image v equal) (memory b c d y z)).replies
          ≡ (run_on (repeated n shut) (image v others) (memory k l m y z)).replies
      pub places : places_on (repeated n shut) (image v equal) (memory b c d y z)
          ≡ places_on (repeated n shut) (image v others) (memory k l m y z)
      pub good_first : good (run_on (repeated n shut) (image v equal) (memory b c d y z)).image ≡ true
      pub good_second : good (run_on (repeated n shut) (image v others) (memory k l m y z)).image ≡ true
      pub left : LeftUses v (sixteen 34) (sixteen 1) (sixteen 2) b c d k l m y z first second

  module _ (b c d y z k l m x t : ℕ) where
    abbrev ours : Copy
    ours = left_on (repeated n (writes v)) (image v equal) (memory b c d y z)

    abbrev theirs : Copy
    theirs = left_on (repeated n (writes v)) (image v another) (memory k l m x t)

    pub record WritersOnUses : Type 0 where
      pub replies : (run_on (repeated n (writes v)) (image v equal) (memory b c d y z)).replies
          ≡ (run_on (repeated n (writes v)) (image v another) (memory k l m x t)).replies
      pub places : places_on (repeated n (writes v)) (image v equal) (memory b c d y z)
          ≡ places_on (repeated n (writes v)) (image v another) (memory k l m x t)
      pub good_ours : good (run_on (repeated n (writes v)) (image v equal) (memory b c d y z)).image ≡ true
      pub good_theirs : good (run_on (repeated n (writes v)) (image v another) (memory k l m x t)).image ≡ true
      pub records : length ours.store.clusters ≡ length theirs.store.clusters
      pub other_record : cluster_at ours.store 3 ≡ cluster_at theirs.store 3
      pub table : table_at ours.store 31 ≡ table_at theirs.store 31
      pub write : (cluster_at ours.store 31).write ≡ (cluster_at theirs.store 31).write
      pub size : length ours.memory ≡ length theirs.memory
      pub other_byte : get_or ours.memory 1 0 ≡ get_or theirs.memory 1 0
      pub near_record : cluster_at ours.store 26 ≡ cluster_at theirs.store 26
      pub near_byte : get_or ours.memory 12296 0 ≡ get_or theirs.memory 12296 0

module _ (v : Wide) (p : Passwords) (b c d y z : ℕ) (xs : List Call) where
  abbrev frozen_end : Copy
  frozen_end = left_on xs (image v p) (memory b c d y z)

  pub record FrozenOnUses : Type 0 where
    pub good : good (run_on xs (image v p) (memory b c d y z)).image ≡ true
    pub active : (cluster_at frozen_end.store 31).active ≡ true
    pub place : place_at frozen_end.store 3 7 (top v) ≡ present_at 0 4
    pub frozen : frozen_at frozen_end.store 3 7 (top v) ≡ true
    pub bytes : (i : ℕ) → i < 4 → get_or frozen_end.memory (12288 + i) 0 ≡ b

module _ (v : Wide) (b c d y z : ℕ) (xs : List Call) where
  abbrev freeze_end : Copy
  freeze_end = left_on (freezing 3 0 (own v 3 7 34) ∷ xs) (image v equal) (memory b c d y z)

  abbrev again_end : Copy
  again_end = left_on (freezing 3 (top v) (own v 3 7 34) ∷ xs) (image v equal) (memory b c d y z)

  pub record FrozenFromUses : Type 0 where
    pub present : (base : ℕ) × (size : ℕ) × (place_at (store_in (image v equal)) 3 7 0 ≡ present_at base size)
    pub again_good : good (run_on (freezing 3 (top v) (own v 3 7 34) ∷ xs) (image v equal) (memory b c d y z)).image ≡ true
    pub good : good (run_on (freezing 3 0 (own v 3 7 34) ∷ xs) (image v equal) (memory b c d y z)).image ≡ true
    pub active : (cluster_at freeze_end.store 31).active ≡ true
    pub place : place_at freeze_end.store 3 7 0 ≡ present_at 4 2
    pub frozen : frozen_at freeze_end.store 3 7 0 ≡ true
    pub bytes : (get_or freeze_end.memory 12292 0 ≡ c) × (get_or freeze_end.memory 12293 0 ≡ d)
    pub again_present : (base : ℕ) × (size : ℕ) × (place_at (store_in (image v equal)) 3 7 (top v) ≡ present_at base size)
    pub again_active : (cluster_at again_end.store 31).active ≡ true
    pub again_place : place_at again_end.store 3 7 (top v) ≡ present_at 0 4
    pub again_frozen : frozen_at again_end.store 3 7 (top v) ≡ true
    pub again_bytes : (i : ℕ) → i < 4 → get_or again_end.memory (12288 + i) 0 ≡ b

-- an image with no active byte that is one, which holds no store
abbrev pub broken : List ℕ
broken = replicate image_bytes 2

module _ (v : Wide) (m : List ℕ) where
  abbrev nowhere : Part
  nowhere = record { from = 0; to = 0 }

  abbrev told : Part
  told = exported_part (looking 0 7 (primary 0 3 3)) (image v equal) (length m)

  pub record LookUses : Type 0 where
    pub refused : exported_part (looking 3 0 []) broken (length m) ≡ nowhere
    pub refused_good : (b c d y z : ℕ)
        → exported_part (looking 0 0 (own v 3 7 34)) (image v equal) (length (memory b c d y z)) ≡ nowhere
    pub damaged : (exported (looking 3 0 (own v 3 7 34)) broken m).reply ≡ shows 1 []
    pub wrong_length_lem : (exported (looking 3 0 (handle 3 7 34 (255 ∷ 255 ∷ 255 ∷ []))) broken m).reply ≡ shows 25 []
    pub exact : (exported (looking 0 7 (primary 0 3 3)) (image v equal) m).reply.shown
        ≡ take (told.to - told.from) (drop told.from m)
    pub inside : (told.from ≤ told.to) × (told.to ≤ length m)
