-- Document 02, §1, "No handles to nothing", in its own words: which calls get 21, and what a weakening that is done gives.
--     Left x i             segment i would be left: the call's handle references it and its mask keeps it
--     Emptied x            the call is a weakening, its handle has a width, its node is at most 3 and its local number at most 7, the
--                          selector is not gapped, and no segment would be left
--     EmptyInWords         21 is given just to such calls: of every call, store and size
--     SomeGiven r          the reply r has a segment whose bit is set in all four subselectors of the handle given, below
--                          its width, and a count that is not 0
--     NeverToNothing       so it is whenever a handle is weakened, of bytes below 256, and the call is done; it is proved
--                          of each conversion that gives sixteen bytes
-- Assumes nothing.
use Rattle.std.specs.Prelude.{◌≡◌, ◌≢◌, ◌↔◌, ℕ, ◌≤◌, ◌<◌, List, get_or}
use Rattle.handle.specs.Handles.{Name, node_of, width_of, decoded, bytes_in}
use Rattle.handle.specs.Words.{Bit, References}
use Rattle.store.specs.declared.Store.{Store}
use Rattle.calls.specs.Calls.{Copy, Call, Arguments, call, weaken, handle_of}
use Rattle.calls.specs.Numbers.{number}
use Rattle.calls.specs.Words.{GappedHandle}
use Rattle.calls.specs.Steps.{Reply, step}

abbrev pub Left : Call → ℕ → Type 0
Left x i = References (handle_of x) i × Bit i x.args.mask

pub record Emptied (x : Call) : Type 0 where
  pub weakens : x.kind ≡ weaken
  pub wide : width_of (handle_of x) ≢ 0
  pub node : node_of (handle_of x) ≤ 3
  pub local : (handle_of x).local ≤ 7
  pub even : ¬ GappedHandle (handle_of x)
  pub none : (i : ℕ) → i < width_of (handle_of x) → ¬ Left x i

pub record SomeGiven (r : Reply) : Type 0 where
  pub segment : ℕ
  pub below : segment < width_of (decoded (bytes_in r.first))
  pub shown : References (decoded (bytes_in r.first)) segment
  pub count : r.count ≢ 0

module _ (f : Name → List ℕ → ℕ → List ℕ) where
  abbrev pub EmptyInWords : Type 0
  EmptyInWords = (x : Call) (s : Store) (size : ℕ) → (number f x s size ≡ 21) ↔ Emptied x

  abbrev pub NeverToNothing : Type 0
  NeverToNothing =
      (g : Arguments) (c : Copy) → ((i : ℕ) → get_or g.handle i 0 < 256)
      → (step f (call weaken g) c).reply.number ≡ 0 → SomeGiven (step f (call weaken g) c).reply
