-- A read in words. In a sound store the segment lies inside the memory, so the part taken from there has the segment's
-- length, and the rest of the buffer follows it at its own place.
-- Assumes nothing.
use mathlib.Core.Path.{◌≡◌, refl, ap, ◌∙◌, subst}
use Prim.Native.Nat.{ℕ, ◌+◌, ◌*◌, ◌-◌, ◌≤◌, ◌<◌}
use native.Mathlib.Omega.{arith}
use mathlib.Core.Bool.{false, true≢false}
use mathlib.Core.List.{List, ◌++◌}
use lib.ListN.{length, get_or, take, drop, length-drop, length-append, get_or-append}
use lib.Seq.{length-take-le, get_or-take, get_or-drop, get_or-append-add}
use borrow.Author.Tests.{ltb-false}
use Rattle.handle.specs.Handles.{Name, node_of}
use Rattle.store.specs.Places.{Place, None, Some, present_at}
use Rattle.store.specs.Records.{base_of, length_of, address}
use Rattle.store.specs.Sound.{is_absent}
use Rattle.calls.specs.Calls.{Copy, Call, Arguments, call, read, handle_of}
use Rattle.calls.specs.Numbers.{segment_absent, short, number}
use Rattle.calls.specs.Words.{place}
use Rattle.calls.specs.Steps.{Outcome, read_reply, left, segment_read, given, step}
use Rattle.calls.specs.ReadWords.{ReadInWords}
use Rattle.calls.proofs.DoneLaws.{NoRow, no_row}
use Rattle.calls.proofs.StepLaws.{step_done}
use Rattle.calls.proofs.InsideLaws.{done_inside}

-- ---- n bytes of m from a on, and then what stands after the first n of b

module _ (m b : List ℕ) (a n : ℕ) (inside : a + n ≤ length m) (room : n ≤ length b) where
  abbrev part : List ℕ
  part = take n (drop a m)

  length_part : length part ≡ n
  length_part = length-take-le n (drop a m) (simp length-drop (omega arith))

  joined_part : (k : ℕ) → k < n → get_or (part ++ drop n b) k 0 ≡ get_or m (a + k) 0
  joined_part k h =
      get_or-append part (drop n b) 0 k (rw length_part h) ∙ get_or-take n (drop a m) k 0 h ∙ get_or-drop a m k 0

  joined_rest : (k : ℕ) → n ≤ k → get_or (part ++ drop n b) k 0 ≡ get_or b k 0
  joined_rest k h =
      let at : k ≡ length part + (k - n) = omega (arith, length_part) in
      let back : n + (k - n) ≡ k = omega arith in
      ap (λ (i : ℕ). get_or (part ++ drop n b) i 0) at
      ∙ get_or-append-add part (drop n b) (k - n) 0
      ∙ get_or-drop n b (k - n) 0
      ∙ ap (λ (i : ℕ). get_or b i 0) back

  length_joined : length (part ++ drop n b) ≡ length b
  length_joined = simp (length-append part (drop n b), length_part, length-drop) (omega arith)

module _ (f : Name → List ℕ → ℕ → List ℕ) (g : Arguments) (c : Copy) where
  abbrev x : Call
  x = call read g

  abbrev node : ℕ
  node = node_of (handle_of x)

  -- what a read leaves and gives, by the place of the segment
  abbrev seen : Place → Outcome
  seen p =
      record {
        copy = c;
        reply =
            read_reply (length_of p)
            (take (length_of p) (drop (address node (base_of p)) c.memory) ++ drop (length_of p) g.bytes);
      }

  module _ (e : number f x c.store (length c.memory) ≡ 0) where
    abbrev r : NoRow f x c.store (length c.memory)
    r = no_row f x c.store (length c.memory) e

    fits : length_of (place x c.store) ≤ length g.bytes
    unfolding short
    fits = ltb-false (length g.bytes) (length_of (place x c.store)) r.short

    step_seen : step f x c ≡ seen (place x c.store)
    unfolding left given segment_read
    step_seen = step_done f x c e

    of_place : (p : Place) → place x c.store ≡ p → is_absent p ≡ false → ReadInWords f g c
    of_place None q a = absurd (true≢false a)
    of_place (Some span) q a =
        record {
          base = span.base;
          size = span.length;
          present = q;
          number = ap (λ (o : Outcome). o.reply.number) s;
          told = ap (λ (o : Outcome). o.reply.length) s;
          bytes = λ k h.
              ap (λ (o : Outcome). get_or o.reply.buffer k 0) s
              ∙ joined_part c.memory g.bytes (node * 4096 + span.base) span.length inside room k h;
          after = λ k h.
              ap (λ (o : Outcome). get_or o.reply.buffer k 0) s
              ∙ joined_rest c.memory g.bytes (node * 4096 + span.base) span.length inside room k h;
          long =
              ap (λ (o : Outcome). length o.reply.buffer) s
              ∙ length_joined c.memory g.bytes (node * 4096 + span.base) span.length inside room;
          first = ap (λ (o : Outcome). o.reply.first) s;
          second = ap (λ (o : Outcome). o.reply.second) s;
          count = ap (λ (o : Outcome). o.reply.count) s;
          copy = ap (λ (o : Outcome). o.copy) s;
        }
      where
        s : step f x c ≡ seen (present_at span.base span.length)
        s = step_seen ∙ ap seen q

        inside : node * 4096 + span.base + span.length ≤ length c.memory
        inside = done_inside f x c e refl refl span.base span.length q

        room : span.length ≤ length g.bytes
        room = subst (λ (p : Place). length_of p ≤ length g.bytes) q fits

    pub read_in_words : ReadInWords f g c
    unfolding segment_absent
    read_in_words = of_place (place x c.store) refl r.segment_absent
