-- Document 02, §6, "A refused password must not tell about the other mode": why number 12 is as narrow as it is, and what
-- comes of it. `renewing m h p` is call 9 in the mode m with the handle h and the new password p, as it is called. For
-- every conversion f:
--     SameButOther m n a b    the two copies differ in nothing but one password of record n, a cluster that is active: that of
--                             the mode which m is not
--     OtherUntold             on two such copies call 9 in the mode m gets the same reply, whatever the handle and the new
--                             password are, and leaves two such copies
--     guesses m gs            call 9 in the mode m for each handle and new password of gs
--     GuessesUntold           so however often it is tried, the replies are the same in both copies
--     OtherFor m c p          p is the password of the record c for the mode that m is not
--     after, handed, checked  what call 9 leaves, the handle that it gives, and the number that validation gets then
--     BothOpen f m a p c      of call 9 that is done with the current password of the other mode, of sixteen bytes:
--       equal                   afterwards the two passwords of the cluster are one
--       given                   the handle given validates in both modes
--       both                    every handle of the cluster gets from validation in one mode what it gets in the other
--     BothOpened              so it is on every copy
--     Revoked                 a call 9 that is done ends the handle presented: validation in that mode gives it 9 then
-- Assumes nothing.
use Rattle.std.specs.Prelude.{◌≡◌, ◌≢◌, ◌⊎◌, ℕ, true, List, [], ◌∷◌, length}
use Rattle.handle.specs.Handles.{Name, decoded, bytes_in}
use Rattle.store.specs.declared.Cluster.{Cluster}
use Rattle.store.specs.Records.{cluster_at, table_at}
use Rattle.calls.specs.Calls.{Copy, Call, renewing}
use Rattle.calls.specs.Words.{cluster_of}
use Rattle.calls.specs.JoinWords.{Together}
use Rattle.calls.specs.RenewWords.{validated}
use Rattle.calls.specs.Steps.{step, run}

pub record SameButOther (m n : ℕ) (a b : Copy) : Type 0 where
  pub active : (cluster_at a.store n).active ≡ true
  pub others : (k : ℕ) → k ≢ n → cluster_at a.store k ≡ cluster_at b.store k
  pub table : table_at a.store n ≡ table_at b.store n
  pub read : m ≡ 1 → (cluster_at a.store n).read ≡ (cluster_at b.store n).read
  pub write : m ≡ 2 → (cluster_at a.store n).write ≡ (cluster_at b.store n).write
  pub memory : a.memory ≡ b.memory

pub record Guess : Type 0 where
  pub handle : List ℕ
  pub password : List ℕ

abbrev pub guesses : ℕ → List Guess → List Call
guesses m [] = []
guesses m (g ∷ gs) = renewing m g.handle g.password ∷ guesses m gs

abbrev pub OtherFor : ℕ → Cluster → List ℕ → Type 0
OtherFor m c p = ((m ≡ 1) × (p ≡ c.write)) ⊎ ((m ≡ 2) × (p ≡ c.read))

module _ (f : Name → List ℕ → ℕ → List ℕ) where
  pub record Untold (m n : ℕ) (x : Call) (a b : Copy) : Type 0 where
    pub reply : (step f x a).reply ≡ (step f x b).reply
    pub left : SameButOther m n (step f x a).copy (step f x b).copy

  abbrev pub OtherUntold : Type 0
  OtherUntold =
      (m n : ℕ) (h p : List ℕ) (a b : Copy) → SameButOther m n a b → Untold m n (renewing m h p) a b

  abbrev pub GuessesUntold : Type 0
  GuessesUntold =
      (m n : ℕ) (gs : List Guess) (a b : Copy) → SameButOther m n a b
      → (run f (guesses m gs) a).replies ≡ (run f (guesses m gs) b).replies

  module _ (m : ℕ) (a p : List ℕ) (c : Copy) where
    -- what call 9 leaves, and the handle that it gives
    abbrev pub after : Copy
    after = (step f (renewing m a p) c).copy

    abbrev pub handed : List ℕ
    handed = bytes_in (step f (renewing m a p) c).reply.first

    -- the number that validation of a handle gets then
    abbrev pub checked : ℕ → List ℕ → ℕ
    checked k b = validated f k b after.store (length after.memory)

    pub record BothOpen : Type 0 where
      pub equal : (cluster_of (decoded a) after.store).read ≡ (cluster_of (decoded a) after.store).write
      pub given : (checked 1 handed ≡ 0) × (checked 2 handed ≡ 0)
      pub both : (b : List ℕ) → Together (decoded a) (decoded b) → checked 1 b ≡ checked 2 b

  abbrev pub BothOpened : Type 0
  BothOpened =
      (m : ℕ) (a p : List ℕ) (c : Copy) → length p ≡ 16 → OtherFor m (cluster_of (decoded a) c.store) p
      → (step f (renewing m a p) c).reply.number ≡ 0 → BothOpen m a p c

  abbrev pub Revoked : Type 0
  Revoked =
      (m : ℕ) (a p : List ℕ) (c : Copy) → (step f (renewing m a p) c).reply.number ≡ 0 → checked m a p c m a ≡ 9
