-- Two ways to carry out calls that tell writers what they must not learn. Each is the step but for one of the rules on which
-- document 02's §7 rests. For every conversion f:
--     uncleared f         call 3 leaves the memory as it was, so that a new segment has the bytes that lay there
--     twelve_of_either f    call 9 gets 12 where the new password is that of either mode, as document 01 has it before document 02,
--                         §6: besides the refusals of the step, where it would be done with the password of the other mode
--     uncleared_from, twelve_from    these, from what the step leaves and gives
-- In what they differ from the step:
--     UnclearedIs x c     reply and store are the step's; the memory is as it was after call 3, and the step's after any other
--     OfOther x c         the call x is a new password that is the current one of the other mode, and the step does it
--     TwelveIs x c        exactly there 12 is given and nothing changes; elsewhere all is the step's
--     LeaksDiffer         so it is for every call and copy
-- Assumes nothing.
use Rattle.std.specs.Prelude.{◌≡◌, ◌≢◌, ◌&&◌, cond, List, [], ◌∷◌, ℕ, eqb}
use Rattle.handle.specs.Handles.{Name, same_password}
use Rattle.store.specs.Records.{primary_of}
use Rattle.calls.specs.Calls.{Copy, Call, new_segment, new_password, among, buffer}
use Rattle.calls.specs.Words.{Current}
use Rattle.calls.specs.Steps.{Outcome, plain, about, step}
use Rattle.isolation.specs.Effects.{other_mode}

abbrev pub uncleared_from : Call → Copy → Outcome → Outcome
uncleared_from x c o =
    record {
      copy =
          record {
            store = o.copy.store;
            memory = cond (among (3 ∷ []) x.kind) c.memory o.copy.memory;
          };
      reply = o.reply;
    }

abbrev pub twelve_from : Call → Copy → Outcome → Outcome
twelve_from x c o =
    cond
    (among (9 ∷ []) x.kind
    && eqb o.reply.number 0
    && same_password x.args.first (primary_of (about x c) (other_mode x.args.mode)))
    (record { copy = c; reply = plain 12 (buffer x) }) o

module _ (f : Name → List ℕ → ℕ → List ℕ) where
  abbrev pub uncleared : Call → Copy → Outcome
  uncleared x c = uncleared_from x c (step f x c)

  abbrev pub twelve_of_either : Call → Copy → Outcome
  twelve_of_either x c = twelve_from x c (step f x c)

  pub record UnclearedIs (x : Call) (c : Copy) : Type 0 where
    pub reply : (uncleared x c).reply ≡ (step f x c).reply
    pub store : (uncleared x c).copy.store ≡ (step f x c).copy.store
    pub new : x.kind ≡ new_segment → (uncleared x c).copy.memory ≡ c.memory
    pub others : x.kind ≢ new_segment → (uncleared x c).copy.memory ≡ (step f x c).copy.memory

  pub record OfOther (x : Call) (c : Copy) : Type 0 where
    pub renews : x.kind ≡ new_password
    pub done : (step f x c).reply.number ≡ 0
    pub other : Current (other_mode x.args.mode) (about x c) x.args.first

  pub record TwelveIs (x : Call) (c : Copy) : Type 0 where
    pub twelve : OfOther x c → twelve_of_either x c ≡ record { copy = c; reply = plain 12 (buffer x) }
    pub others : (¬ OfOther x c) → twelve_of_either x c ≡ step f x c

  abbrev pub LeaksDiffer : Type 0
  LeaksDiffer = (x : Call) (c : Copy) → UnclearedIs x c × TwelveIs x c
