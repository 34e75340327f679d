-- Document 02, §8, its sentences on lengths and widths, in words beside the table. Of every call, store, size of the slice and
-- copy; handles are bytes of any length, and clusters have any number for a width, sound or not.
--     Reached x s size     no row above the second place of 25 applies to a call that opens a cluster: each handle has one of
--                          the three lengths, the store is sound, and neither 2, 3, 4, 24, 5 nor 8 applies
--     LengthInWords        25 is given just where a handle's length is none of the three, or where nothing above its second
--                          place applies and a handle's width is not its cluster's
--     OnlyByLength         call 7 gets it by a length alone
--     LengthFirst          a handle's length is none of the three: 25, on every store and slice, damaged ones too, and the
--                          copy and the buffer stay as they were
--     NeverOpens           a handle of another width than its cluster's does not validate, in either mode: no call that opens
--                          a cluster is done with it, neither as the first handle nor as the second, and validation by itself
--                          is refused
--     SameBelow w m n      the masks m and n have the same bits below w
--     MaskBelow            masks that have the same bits below the handle's width leave and give the same
--     made                 what call 1 leaves and gives
--     MadeWide             of call 1 done, with passwords of sixteen bytes, on a store of thirty-two records:
--       known                its width is 4, 8 or 16
--       stored               the cluster that it names has that width
--       first, second        both handles have 19 bytes and half as many as the width more
--       wide                 so both are of that width
--     giving, silent       calls 7, 8, 9 and 11, which give a handle for one; calls 2 to 6 and 10, validation and a look,
--                          which give none
--     AsLong               of calls 7, 8, 9 and 11 done, by a conversion that gives sixteen bytes: the handle given is as long
--                          as the one presented, which is the first of a join's
--     nothing              what a reply holds where no handle is given: the length 0 and 27 zeros
--     NoneGiven            a refusal gives no handle, nor does any call of those that give none, and no call but 1 gives a
--                          second one
-- Assumes nothing.
use Rattle.std.specs.Prelude.{◌≡◌, ◌≢◌, ◌⊎◌, ◌↔◌, ℕ, ◌+◌, ◌/◌, ◌<◌, false, List, [], ◌∷◌, length, replicate}
use Rattle.handle.specs.declared.Handle.{Handle}
use Rattle.handle.specs.declared.HandleBytes.{HandleBytes}
use Rattle.handle.specs.Handles.{Name, width_of, decoded, bytes_in}
use Rattle.handle.specs.Words.{Bit}
use Rattle.store.specs.declared.Store.{Store}
use Rattle.calls.specs.Calls.{Copy, Call, Kind, new_cluster, delete_cluster, new_segment, delete_segment, read, write, weaken}
use Rattle.calls.specs.Calls.{reduce, new_password, freeze, join, validate, look, buffer, making_cluster, weakening_by}
use Rattle.calls.specs.Calls.{validating}
use Rattle.calls.specs.Numbers.{valid, number}
use Rattle.calls.specs.Words.{Named, BadLength, Unsound, NoSuchPlace, Field, Gapped, Apart, Elsewhere, Inactive}
use Rattle.calls.specs.Words.{OtherWidth, cluster, cluster_of}
use Rattle.calls.specs.Steps.{Outcome, step}

-- ---- which calls get 25

pub record Reached (x : Call) (s : Store) (size : ℕ) : Type 0 where
  pub lengths : ¬ BadLength x
  pub sound : ¬ Unsound size x s
  pub place : ¬ NoSuchPlace x
  pub field : ¬ Field x
  pub even : ¬ Gapped x
  pub together : ¬ Apart x
  pub here : ¬ Elsewhere x
  pub active : ¬ Inactive x s

-- ---- masks

abbrev pub SameBelow : ℕ → ℕ → ℕ → Type 0
SameBelow w m n = (i : ℕ) → i < w → Bit i m ↔ Bit i n

-- ---- handles given

abbrev pub giving : List Kind
giving = weaken ∷ reduce ∷ new_password ∷ join ∷ []

abbrev pub silent : List Kind
silent = delete_cluster ∷ new_segment ∷ delete_segment ∷ read ∷ write ∷ freeze ∷ validate ∷ look ∷ []

abbrev pub nothing : HandleBytes
nothing = record { length = 0; bytes = replicate 27 0 }

module _ (f : Name → List ℕ → ℕ → List ℕ) where
  abbrev pub LengthInWords : Type 0
  LengthInWords =
      (x : Call) (s : Store) (size : ℕ)
      → (number f x s size ≡ 25) ↔ (BadLength x ⊎ (Reached x s size × OtherWidth x s))

  abbrev pub OnlyByLength : Type 0
  OnlyByLength = (x : Call) (s : Store) (size : ℕ) → x.kind ≡ weaken → number f x s size ≡ 25 → BadLength x

  pub record LengthFirst (x : Call) : Type 0 where
    pub number : (s : Store) (size : ℕ) → number f x s size ≡ 25
    pub told : (c : Copy) → (step f x c).reply.number ≡ 25
    pub copy : (c : Copy) → (step f x c).copy ≡ c
    pub buffer : (c : Copy) → (step f x c).reply.buffer ≡ buffer x

  pub record NeverOpens : Type 0 where
    pub valid : (m : ℕ) (h : Handle) (s : Store) → (cluster_of h s).width ≢ width_of h → valid f m h s ≡ false
    pub done : (x : Call) (s : Store) (size : ℕ) → OtherWidth x s → number f x s size ≢ 0
    pub validation : (m : ℕ) (b : List ℕ) (s : Store) (size : ℕ)
        → (cluster_of (decoded b) s).width ≢ width_of (decoded b) → number f (validating m b) s size ≢ 0

  abbrev pub MaskBelow : Type 0
  MaskBelow =
      (b : List ℕ) (m n : ℕ) → SameBelow (width_of (decoded b)) m n → (c : Copy)
      → step f (weakening_by m b) c ≡ step f (weakening_by n b) c

  module _ (v l w : ℕ) (p q : List ℕ) (c : Copy) where
    abbrev made : Outcome
    made = step f (making_cluster v l w p q) c

    pub record MadeWide : Type 0 where
      pub known : (w ≡ 4) ⊎ (w ≡ 8) ⊎ (w ≡ 16)
      pub stored : (cluster made.copy.store v l).width ≡ w
      pub first : made.reply.first.length ≡ 19 + w / 2
      pub second : made.reply.second.length ≡ 19 + w / 2
      pub wide : (width_of (decoded (bytes_in made.reply.first)) ≡ w)
          × (width_of (decoded (bytes_in made.reply.second)) ≡ w)

  abbrev pub AsLong : Type 0
  AsLong =
      (x : Call) → Named giving x
      → (x.kind ≡ new_password → length x.args.first ≡ 16) → (c : Copy) → (step f x c).reply.number ≡ 0
      → (step f x c).reply.first.length ≡ length x.args.handle

  pub record NoneGiven (x : Call) (c : Copy) : Type 0 where
    pub refused : (step f x c).reply.number ≢ 0 → ((step f x c).reply.first ≡ nothing) × ((step f x c).reply.second ≡ nothing)
    pub never : Named silent x → (step f x c).reply.first ≡ nothing
    pub single : x.kind ≢ new_cluster → (step f x c).reply.second ≡ nothing
