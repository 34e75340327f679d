-- Document 02, §2, "Look at a local strip without copying", in words. Of the look from the current node v at the segment i
-- with the handle of the bytes h, on the copy c:
--     number, part, reply     its number and the part that it tells; its reply
--     Shown                   it is done: the current node is the handle's; the segment is present with a base and a length;
--                             the part begins at the base in the node's own 4,096 bytes and ends with the segment, inside
--                             the memory; the bytes shown are the memory's there, as many as the segment has
--     Hidden                  it is refused: the part goes from 0 to 0, and no byte is shown
--     LookInWords             so it is whether done or refused; the bytes shown are exactly that part of the memory, and
--                             none exactly where the look is refused; the reply gives nothing but them and the number, and
--                             the copy is as it was
--     LookReads               a look done shows what a read with the same handle gives to every buffer that is long
--                             enough, and that read is done
--     LookNeeds               it needs what such a read needs, and the handle's node to be the current one: from there it
--                             gets the number of the read, and from elsewhere it is not done
--     LookUses                a look with any arguments is the look from its current node at its segment with its handle
-- Assumes nothing.
use Rattle.std.specs.Prelude.{◌≡◌, ◌≢◌, ◌↔◌, ℕ, ◌+◌, ◌*◌, ◌-◌, ◌≤◌, ◌<◌, List, [], ◌++◌, length, get_or, take, drop}
use Rattle.handle.specs.Handles.{Name, node_of, decoded}
use Rattle.store.specs.Places.{present_at}
use Rattle.store.specs.declared.Store.{Store}
use Rattle.store.specs.Records.{length_of}
use Rattle.calls.specs.declared.Part.{Part}
use Rattle.calls.specs.Calls.{Copy, Arguments, call, look, looking, reading}
use Rattle.calls.specs.Numbers as N
use Rattle.calls.specs.Words.{place}
use Rattle.calls.specs.Steps.{Reply, Outcome, step}
use Rattle.calls.specs.Looks.{looked}
use Rattle.calls.specs.Literals.{none, told, shows}

module _ (f : Name → List ℕ → ℕ → List ℕ) (v i : ℕ) (h : List ℕ) (c : Copy) where
  abbrev pub number : ℕ
  number = (looked f (looking v i h) c.store (length c.memory)).number

  abbrev pub part : Part
  part = (looked f (looking v i h) c.store (length c.memory)).part

  abbrev pub reply : Reply
  reply = (step f (looking v i h) c).reply

  pub record Shown : Type 0 where
    pub here : v ≡ node_of (decoded h)
    pub base : ℕ
    pub size : ℕ
    pub present : place (looking v i h) c.store ≡ present_at base size
    pub some : 0 < size
    pub from : part.from ≡ node_of (decoded h) * 4096 + base
    pub to : part.to ≡ node_of (decoded h) * 4096 + base + size
    pub inside : part.to ≤ length c.memory
    pub long : length reply.shown ≡ size
    pub bytes : (k : ℕ) → k < size
        → get_or reply.shown k 0 ≡ get_or c.memory (node_of (decoded h) * 4096 + base + k) 0

  pub record Hidden : Type 0 where
    pub from : part.from ≡ 0
    pub to : part.to ≡ 0
    pub shown : reply.shown ≡ []

  pub record LookInWords : Type 0 where
    pub done : number ≡ 0 → Shown
    pub refused : number ≢ 0 → Hidden
    pub exact : reply.shown ≡ take (part.to - part.from) (drop part.from c.memory)
    pub empty : (reply.shown ≡ []) ↔ (number ≢ 0)
    pub told : reply ≡ shows number reply.shown
    pub copy : (step f (looking v i h) c).copy ≡ c

module _ (f : Name → List ℕ → ℕ → List ℕ) where
  abbrev after_read : List ℕ → List ℕ → Copy → Outcome
  after_read s b c = record { copy = c; reply = told 0 none none 0 (length s) (s ++ drop (length s) b) }

  abbrev pub LookReads : Type 0
  LookReads =
      (v i : ℕ) (h b : List ℕ) (c : Copy) → number f v i h c ≡ 0 → length (reply f v i h c).shown ≤ length b
      → step f (reading i h b) c ≡ after_read (reply f v i h c).shown b c

  pub record LookNeeds (v i : ℕ) (h : List ℕ) (s : Store) (size : ℕ) : Type 0 where
    pub here : v ≡ node_of (decoded h) → (b : List ℕ) → length_of (place (reading i h b) s) ≤ length b
        → N.number f (looking v i h) s size ≡ N.number f (reading i h b) s size
    pub away : v ≢ node_of (decoded h) → N.number f (looking v i h) s size ≢ 0

  abbrev pub LookUses : Type 0
  LookUses = (g : Arguments) (c : Copy) → step f (call look g) c ≡ step f (looking g.current g.segment g.handle) c
