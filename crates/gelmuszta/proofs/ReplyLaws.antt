-- What the replies of a kind leave zero, whatever the number: a refusal gives nothing, and a call done only its own.
-- Assumes nothing.
use mathlib.Core.Path.{◌≡◌, refl, sym, ap}
use mathlib.Core.List.{List, []}
use Prim.Native.Nat.{ℕ, zero, suc}
use lib.ListN.{length}
use Rattle.handle.specs.declared.HandleBytes.{HandleBytes}
use Rattle.handle.specs.Conversion.{product}
use Rattle.numbers.specs.Codes.{told}
use Rattle.calls.specs.Answers.{Answer, replied, gives, no_handle, first, count}
use Rattle.calls.specs.Calls.{Copy, Call, Arguments, call, new_cluster, delete_cluster, new_segment, delete_segment}
use Rattle.calls.specs.Calls.{Kind, read, write, weaken, reduce, new_password, freeze, join, validate, look, buffer}
use Rattle.calls.specs.Numbers.{number}
use Rattle.calls.specs.Steps.{Reply, plain, read_reply, segment_read, segment_shown, given, outcome, step, aes_step}
use Rattle.gelmuszta.specs.Exported.{nothing, reply_of}

-- a field that is the same in every refusal and in what the call gives
module _ {A : Type 0} (field : Reply → A) (z : A) (refusal : (n : ℕ) (b : List ℕ) → field (plain n b) ≡ z) where
  pub always : (x : Call) (c : Copy) → field (given product x.kind x c) ≡ z → field (aes_step x c).reply ≡ z
  unfolding step
  always x c done = go (number product x c.store (length c.memory))
    where
      go : (n : ℕ) → field (outcome product n x c).reply ≡ z
      go zero = done
      go (suc n) = refusal (suc n) (buffer x)

module _ (x : Call) (c : Copy) (r : Reply) (e : given product x.kind x c ≡ r) where
  none_first : r.first ≡ nothing → nothing ≡ (aes_step x c).reply.first
  none_first h = sym (always (λ (q : Reply). q.first) nothing (λ n b. refl) x c (rw e h))

  none_second : r.second ≡ nothing → nothing ≡ (aes_step x c).reply.second
  none_second h = sym (always (λ (q : Reply). q.second) nothing (λ n b. refl) x c (rw e h))

  none_count : r.count ≡ 0 → 0 ≡ (aes_step x c).reply.count
  none_count h = sym (always (λ (q : Reply). q.count) 0 (λ n b. refl) x c (rw e h))

  none_length : r.length ≡ 0 → 0 ≡ (aes_step x c).reply.length
  none_length h = sym (always (λ (q : Reply). q.length) 0 (λ n b. refl) x c (rw e h))

  none_shown : r.shown ≡ [] → [] ≡ (aes_step x c).reply.shown
  none_shown h = sym (always (λ (q : Reply). q.shown) [] (λ n b. refl) x c (rw e h))

-- ---- what the calls give, once done

pub record HandleAndCount (x : Call) : Type 0 where
  pub handle : Copy → HandleBytes
  pub count : Copy → ℕ
  pub gives : (c : Copy) → given product x.kind x c ≡ reply_of 0 (handle c) nothing (count c) 0 []

pub record Silent (x : Call) : Type 0 where
  pub gives : (c : Copy) → given product x.kind x c ≡ plain 0 (buffer x)

pub record OneHandle (x : Call) : Type 0 where
  pub handle : Copy → HandleBytes
  pub gives : (c : Copy) → given product x.kind x c ≡ reply_of 0 (handle c) nothing 0 0 []

pub record TwoHandles (x : Call) : Type 0 where
  pub first : Copy → HandleBytes
  pub second : Copy → HandleBytes
  pub gives : (c : Copy) → given product x.kind x c ≡ reply_of 0 (first c) (second c) 0 0 []

pub record Length (x : Call) : Type 0 where
  pub size : Copy → ℕ
  pub buffer : Copy → List ℕ
  pub gives : (c : Copy) → given product x.kind x c ≡ read_reply (size c) (buffer c)

module _ (g : Arguments) where
  pub delete_cluster_silent : Silent (call delete_cluster g)
  unfolding given
  delete_cluster_silent = record { gives = λ c. refl }

  pub new_segment_silent : Silent (call new_segment g)
  unfolding given
  new_segment_silent = record { gives = λ c. refl }

  pub delete_segment_silent : Silent (call delete_segment g)
  unfolding given
  delete_segment_silent = record { gives = λ c. refl }

  pub freeze_silent : Silent (call freeze g)
  unfolding given
  freeze_silent = record { gives = λ c. refl }

  pub write_silent : Silent (call write g)
  unfolding given
  write_silent = record { gives = λ c. refl }

  pub validate_silent : Silent (call validate g)
  unfolding given
  validate_silent = record { gives = λ c. refl }

  pub weaken_counts : HandleAndCount (call weaken g)
  unfolding given
  weaken_counts = record { handle = _; count = _; gives = λ c. refl }

  pub reduce_one : OneHandle (call reduce g)
  unfolding given
  reduce_one = record { handle = _; gives = λ c. refl }

  pub join_one : OneHandle (call join g)
  unfolding given
  join_one = record { handle = _; gives = λ c. refl }

  pub new_password_one : OneHandle (call new_password g)
  unfolding given
  new_password_one = record { handle = _; gives = λ c. refl }

  pub new_cluster_two : TwoHandles (call new_cluster g)
  unfolding given
  new_cluster_two = record { first = _; second = _; gives = λ c. refl }

  pub read_length : Length (call read g)
  unfolding given segment_read
  read_length = record { size = _; buffer = _; gives = λ c. refl }

-- a call done has the number 0
pub done_number : (kind : Kind) (x : Call) (c : Copy) → (given product kind x c).number ≡ 0
unfolding given segment_read segment_shown
done_number new_cluster x c = refl
done_number delete_cluster x c = refl
done_number new_segment x c = refl
done_number delete_segment x c = refl
done_number read x c = refl
done_number write x c = refl
done_number weaken x c = refl
done_number reduce x c = refl
done_number new_password x c = refl
done_number freeze x c = refl
done_number join x c = refl
done_number validate x c = refl
done_number look x c = refl

-- ---- the reply from the fields that the code gives

abbrev pub whole : ℕ → HandleBytes → HandleBytes → ℕ → ℕ → List ℕ → List ℕ → Reply
whole number first second count length buffer shown =
    record {
      number = number;
      first = first;
      second = second;
      count = count;
      length = length;
      buffer = buffer;
      shown = shown;
    }

-- a silent call's reply from its number
pub silent_known : (x : Call) (c : Copy) → Silent x
    → reply_of (aes_step x c).reply.number nothing nothing 0 0 (buffer x) ≡ (aes_step x c).reply
unfolding step
silent_known x c s =
    λ j. whole (aes_step x c).reply.number (none_first x c _ (s.gives c) refl j) (none_second x c _ (s.gives c) refl j)
    (none_count x c _ (s.gives c) refl j) (none_length x c _ (s.gives c) refl j) (same j)
    (none_shown x c _ (s.gives c) refl j)
  where
    same : buffer x ≡ (aes_step x c).reply.buffer
    same = go (number product x c.store (length c.memory))
      where
        go : (n : ℕ) → buffer x ≡ (outcome product n x c).reply.buffer
        go zero = ap (λ (r : Reply). r.buffer) (sym (s.gives c))
        go (suc n) = refl

-- weakening's reply from what the code gives
pub count_reply : (x : Call) (c : Copy) (a : Answer) (b : List ℕ) → replied a b ≡ (aes_step x c).reply → HandleAndCount x
    → reply_of (told a) (gives first no_handle a) nothing (gives count 0 a) 0 b ≡ (aes_step x c).reply
count_reply x c a b e s =
    λ j. whole (e j).number (e j).first (none_second x c _ (s.gives c) refl j) (e j).count
    (none_length x c _ (s.gives c) refl j) (e j).buffer (e j).shown
