-- What an exported call gives and leaves: the store comes and goes as its image, the rest as document 01 has it.
--     nothing               no handle: 27 zeros and the length 0
--     reply_of ..            the reply of these values, in the order of the record's fields, which shows no bytes
--     Exported              the reply, and the image and the memory that are left; where a look's part lies stands beside it
--     leaving r b m         the reply r, and the image b and the memory m that are left
--     giving n hs, giving_both n hs ks, counting n hs k, telling n k bs
--                           the reply of the number n and a handle held; two; a handle and a count; a length and a buffer. That of
--                           a number and a buffer alone is `plain`
--     early none sd         what comes before all else: 25 where a handle has none of the three lengths, then 1 where sd, whether
--                           the image holds a sound store, is false; or 0
--     damaged x b m         an image that holds no store is refused as an unsound one is: with 25 where a handle's length is
--                           none of the three, else with 1, and all stays as it was; weakening alone, which looks at no
--                           store, is answered as ever
--     imaged o              what a step gave and left, the store as its image
--     exported x b m        the call x on the image b and the memory m: the step on the store that b holds
--     part_from a n          the part of n bytes that begins at a
--     exported_part x b size    the part that the look x tells on the image b and a memory of that many bytes: that on the
--                           store which b holds, and nowhere if b holds none
--     OnEveryMemory x b f      with every memory m of the store's size the call x on the image b gives and leaves f m
--     Gives x b r after        with every such memory x on b gives the reply r, and leaves the image after and the memory
--     Always x r            on every store and memory the call x gives the reply r, and leaves both as they were
-- Assumes nothing.
use Rattle.std.specs.Prelude.{◌≡◌, ℕ, ◌+◌, Bool, true, false, not, cond, List, [], ◌∷◌, length}
use Rattle.sizes.specs.Sizes.{memory as memory_bytes}
use Rattle.handle.specs.declared.HandleBytes.{HandleBytes}
use Rattle.handle.specs.Handles.{laid}
use Rattle.codec.specs.Held.{handed}
use Rattle.store.specs.declared.Store.{Store}
use Rattle.calls.specs.Calls.{Call, among, buffer}
use Rattle.calls.specs.declared.Part.{Part}
use Rattle.calls.specs.Numbers.{bad_length}
use Rattle.calls.specs.Steps.{Reply, Outcome, no_bytes, plain, aes_step}
use Rattle.calls.specs.Looks.{nowhere, aes_looked}
use Rattle.calls.specs.Answers.{copy_of}
use Rattle.image.specs.Images.{good, store_in, image_of}
use Rattle.numbers.specs.Numbers.{unsound_number, wrong_length_number}

abbrev pub nothing : HandleBytes
nothing = laid no_bytes

abbrev pub reply_of : ℕ → HandleBytes → HandleBytes → ℕ → ℕ → List ℕ → Reply
reply_of number first second count length buffer =
    record {
      number = number;
      first = first;
      second = second;
      count = count;
      length = length;
      buffer = buffer;
      shown = [];
    }

pub record Exported : Type 0 where
  pub reply : Reply
  pub image : List ℕ
  pub memory : List ℕ

abbrev pub leaving : Reply → List ℕ → List ℕ → Exported
leaving r b m = record { reply = r; image = b; memory = m }

abbrev pub giving : ℕ → List ℕ → Reply
giving n hs = reply_of n (handed hs) nothing 0 0 []

abbrev pub giving_both : ℕ → List ℕ → List ℕ → Reply
giving_both n hs ks = reply_of n (handed hs) (handed ks) 0 0 []

abbrev pub counting : ℕ → List ℕ → ℕ → Reply
counting n hs k = reply_of n (handed hs) nothing k 0 []

abbrev pub telling : ℕ → ℕ → List ℕ → Reply
telling n k buffer = reply_of n nothing nothing 0 k buffer

abbrev pub early : Bool → Bool → ℕ
early none sd = cond none wrong_length_number (cond (not sd) unsound_number 0)

abbrev pub damaged : Call → List ℕ → List ℕ → Exported
damaged x b m =
    record {
      reply =
          elim (among (7 ∷ []) x.kind) [
            | true ↦ (aes_step x (copy_of (store_in b) m)).reply
            | false ↦ plain (early (bad_length x) false) (buffer x)
          ];
      image = b;
      memory = m;
    }

abbrev pub imaged : Outcome → Exported
imaged o = record { reply = o.reply; image = image_of o.copy.store; memory = o.copy.memory }

unfoldable pub exported : Call → List ℕ → List ℕ → Exported
exported x b m = elim (good b) [ true ↦ imaged (aes_step x (copy_of (store_in b) m)) | false ↦ damaged x b m ]

abbrev pub part_from : ℕ → ℕ → Part
part_from a n = record { from = a; to = a + n }

unfoldable pub exported_part : Call → List ℕ → ℕ → Part
exported_part x b size = elim (good b) [ true ↦ (aes_looked x (store_in b) size).part | false ↦ nowhere ]

abbrev pub OnEveryMemory : Call → List ℕ → (List ℕ → Exported) → Type 0
OnEveryMemory x b f = (m : List ℕ) → length m ≡ memory_bytes → f m ≡ exported x b m

abbrev pub Gives : Call → List ℕ → Reply → List ℕ → Type 0
Gives x b r after = OnEveryMemory x b (λ m. leaving r after m)

abbrev pub Always : Call → Reply → Type 0
Always x r = (s : Store) (m : List ℕ) → record { copy = copy_of s m; reply = r } ≡ aes_step x (copy_of s m)
