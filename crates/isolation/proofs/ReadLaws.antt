-- A read done, byte by byte. No row of the table applies to it, so the store is sound, the segment is present and its
-- bytes lie in the memory, and the buffer is long enough; the reply is then a part of the memory and the rest of the buffer.
-- Assumes nothing.
use mathlib.Core.Path.{◌≡◌, refl, sym, ap, ◌∙◌, subst}
use Prim.Native.Nat.{ℕ, ◌+◌, ◌-◌, ◌≤◌, ◌<◌}
use native.Mathlib.Omega.{arith}
use mathlib.Core.Bool.{false, true≢false}
use mathlib.Core.List.{List, ◌++◌}
use lib.ListN.{length, get_or, take, drop, length-append, length-drop, get_or-append}
use lib.Seq.{length-take-le, get_or-take, get_or-drop, get_or-append-add}
use borrow.Author.Tests.{ltb-false, not-false}
use Rattle.handle.specs.Handles.{Name}
use Rattle.store.specs.Places.{Place, None, Some, present_at}
use Rattle.store.specs.Records.{table_at, base_of, length_of, address}
use Rattle.store.specs.Sound.{is_absent, sound}
use Rattle.calls.specs.Calls.{Copy, Call, call, Arguments, read, node_for, place_for}
use Rattle.calls.specs.Numbers.{unsound, segment_absent, short}
use Rattle.calls.specs.Steps.{Reply, Outcome, read_reply, segment_read, given, step}
use Rattle.calls.proofs.DoneLaws.{no_row, done_range}
use Rattle.calls.proofs.StepLaws.{step_done}
use Rattle.isolation.specs.Copies.{SoundCopy, Done}
use Rattle.isolation.specs.Reads.{Read, ReadGives}
use Rattle.isolation.proofs.KeptLaws.{segment_fits, low_segment}

-- ---- n bytes of m from a on, and then b from n on

module _ (m b : List ℕ) (a n : ℕ) where
  abbrev joined : List ℕ
  joined = take n (drop a m) ++ drop n b

  module _ (fit : a + n ≤ length m) (room : n ≤ length b) where
    length_part : length (take n (drop a m)) ≡ n
    length_part = length-take-le n (drop a m) (simp length-drop (omega arith))

    length_joined : length joined ≡ length b
    length_joined = simp (length-append (take n (drop a m)) (drop n b), length_part, length-drop) (omega arith)

    joined_first : (i : ℕ) → i < n → get_or joined i 0 ≡ get_or m (a + i) 0
    joined_first i h =
        get_or-append (take n (drop a m)) (drop n b) 0 i (rw length_part h)
        ∙ get_or-take n (drop a m) i 0 h
        ∙ get_or-drop a m i 0

    joined_rest : (i : ℕ) → n ≤ i → get_or joined i 0 ≡ get_or b i 0
    joined_rest i h =
        let e : i ≡ n + (i - n) = omega arith in
        ap (λ (k : ℕ). get_or joined k 0) e
        ∙ ap (λ (k : ℕ). get_or joined (k + (i - n)) 0) (sym length_part)
        ∙ get_or-append-add (take n (drop a m)) (drop n b) (i - n) 0
        ∙ get_or-drop n b (i - n) 0
        ∙ ap (λ (k : ℕ). get_or b k 0) (sym e)

-- ---- a read done

module _ (f : Name → List ℕ → ℕ → List ℕ) (g : Arguments) (c : Copy) (e : Done f (call read g) c) where
  abbrev x : Call
  x = call read g

  -- the reply where the segment's place is p
  abbrev at_place : Place → Reply
  at_place p =
      read_reply (length_of p)
      (take (length_of p) (drop (address (node_for x) (base_of p)) c.memory) ++ drop (length_of p) g.bytes)

  reply_is : (step f x c).reply ≡ at_place (place_for x (table_at c.store))
  unfolding given segment_read
  reply_is = ap (λ (o : Outcome). o.reply) (step_done f x c e)

  sound_copy : SoundCopy c
  unfolding unsound
  sound_copy = not-false (sound c.store (length c.memory)) (no_row f x c.store (length c.memory) e).unsound

  present : is_absent (place_for x (table_at c.store)) ≡ false
  unfolding segment_absent
  present = (no_row f x c.store (length c.memory) e).segment_absent

  room : length_of (place_for x (table_at c.store)) ≤ length g.bytes
  unfolding short
  room =
      ltb-false (length g.bytes) (length_of (place_for x (table_at c.store)))
      (no_row f x c.store (length c.memory) e).short

  fits : address (node_for x) (base_of (place_for x (table_at c.store))) + length_of (place_for x (table_at c.store))
      ≤ length c.memory
  fits = segment_fits f g c sound_copy x (done_range f x c.store (length c.memory) e) (low_segment f g c sound_copy read refl e)

  read_gives_at : (p : Place) → place_for x (table_at c.store) ≡ p → is_absent p ≡ false → Read g c (step f x c).reply
  read_gives_at None q h = absurd (true≢false h)
  read_gives_at (Some span) q h =
      record {
        base = span.base;
        size = span.length;
        place = q;
        told = whole ∙ ap (λ (b : List ℕ). read_reply span.length b) (sym buffer);
        long = ap length buffer ∙ length_joined c.memory g.bytes at span.length fit enough;
        segment = λ i l. ap (λ (b : List ℕ). get_or b i 0) buffer ∙ joined_first c.memory g.bytes at span.length fit enough i l;
        rest = λ i l. ap (λ (b : List ℕ). get_or b i 0) buffer ∙ joined_rest c.memory g.bytes at span.length fit enough i l;
      }
    where
      at : ℕ
      at = address (node_for x) span.base

      whole : (step f x c).reply ≡ at_place (present_at span.base span.length)
      whole = reply_is ∙ ap at_place q

      buffer : (step f x c).reply.buffer ≡ joined c.memory g.bytes at span.length
      buffer = ap (λ (r : Reply). r.buffer) whole

      fit : at + span.length ≤ length c.memory
      fit = subst (λ (p : Place). address (node_for x) (base_of p) + length_of p ≤ length c.memory) q fits

      enough : span.length ≤ length g.bytes
      enough = subst (λ (p : Place). length_of p ≤ length g.bytes) q room

pub read_gives : (f : Name → List ℕ → ℕ → List ℕ) → ReadGives f
read_gives f g c e = read_gives_at f g c e (place_for (call read g) (table_at c.store)) refl (present f g c e)
