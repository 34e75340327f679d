-- A handle's bytes: each reads back as the other, at every width. A selector is read back from its bytes by arithmetic;
-- the rest of a handle is parts of a list of known length, which compute.
-- Assumes nothing.
use Prim.Native.Nat.{ℕ, zero, suc, ◌+◌, ◌/◌, ◌%◌, ◌-◌, ◌<◌}
use native.Mathlib.Omega.{arith}
use mathlib.Core.Path.{◌≡◌, refl, sym, ap, ap₂, ◌∙◌, subst}
use mathlib.Core.List.{List, [], ◌∷◌, ◌++◌}
use lib.ListN.{length, get_or, replicate}
use lib.Seq.{take-append_seam}
use Rattle.bits.specs.Bytes.{bytes, word}
use Rattle.bits.proofs.ByteLaws.{word_bytes_lem, bytes_word}
use Rattle.loops.specs.Tabulate.{tabulate}
use Rattle.loops.proofs.TabulateLaws.{length_tabulate, get_d_tabulate}
use Rattle.handle.specs.declared.Handle.{Handle}
use Rattle.handle.specs.declared.Width.{Width}
use Rattle.handle.specs.declared.Width.TheVariants.{None, Four, Eight, Sixteen}
use Rattle.sizes.specs.Sizes.{password_bytes}
use Rattle.handle.specs.Sizes.{subselectors, node_bytes, local_at, password_at, selector_at}
use Rattle.handle.specs.Widths.{bits_of, selector_bytes, length_of, most_bytes, halves, packed, unpacked}
use Rattle.handle.specs.Selectors.{Within}
use Rattle.handle.specs.Handles.{encoded_as, encoded, bytes_in, laid, decoded_as, decoded, no_handle, Holdable}
use Rattle.handle.proofs.CodecLaws.{elements, listed, elements_from, handle_of, width_cases}

-- ---- the round trips of selectors

-- a half and the other are read back from their byte
low_half : (a b : ℕ) → a < 16 → halves a b % 16 ≡ a
low_half a b h = omega arith

high_half : (a b : ℕ) → b < 16 → halves a b / 16 ≡ b
high_half a b h = omega arith

byte_halves : (x : ℕ) → x < 256 → halves (x % 16) (x / 16) ≡ x
byte_halves x h = omega arith

unpacked_four : (v : Width) → 0 < bits_of v → (a b c d : ℕ) → Within (bits_of v) (a ∷ b ∷ c ∷ d ∷ [])
    → unpacked v (packed v (a ∷ b ∷ c ∷ d ∷ [])) ≡ a ∷ b ∷ c ∷ d ∷ []
unfolding unpacked packed bytes
unpacked_four None l a b c d w = absurd (omega arith)
unpacked_four Four l a b c d w =
    λ j.
    low_half a b w.0 j ∷ high_half a b w.1.0 j ∷ low_half c d w.1.1.0 j
    ∷ high_half c d w.1.1.1.0 j ∷ []
unpacked_four Eight l a b c d w =
    λ j.
    word_bytes_lem 1 a w.0 j ∷ word_bytes_lem 1 b w.1.0 j ∷ word_bytes_lem 1 c w.1.1.0 j
    ∷ word_bytes_lem 1 d w.1.1.1.0 j ∷ []
unpacked_four Sixteen l a b c d w =
    λ j.
    word_bytes_lem 2 a w.0 j ∷ word_bytes_lem 2 b w.1.0 j ∷ word_bytes_lem 2 c w.1.1.0 j
    ∷ word_bytes_lem 2 d w.1.1.1.0 j ∷ []

-- a selector of the width is read back from its bytes
pub unpacked_packed : (v : Width) → 0 < bits_of v → (ss : List ℕ) → length ss ≡ subselectors → Within (bits_of v) ss
    → unpacked v (packed v ss) ≡ ss
unfolding tabulate
unpacked_packed v l ss e w =
    ap (λ (m : List ℕ). unpacked v (packed v m)) (listed subselectors ss e)
    ∙ unpacked_four v l (get_or ss 0 0) (get_or ss 1 0) (get_or ss 2 0) (get_or ss 3 0)
    (subst (Within (bits_of v)) (listed subselectors ss e) w)
    ∙ sym (listed subselectors ss e)

-- bytes are those of the number that k of them hold
two_bytes : (a b : ℕ) → a < 256 → b < 256 → bytes 2 (word (a ∷ b ∷ [])) ≡ a ∷ b ∷ []
two_bytes a b ha hb = bytes_word (a ∷ b ∷ []) below
  where
    below : (i : ℕ) → get_or (a ∷ b ∷ []) i 0 < 256
    below zero = ha
    below (suc zero) = hb
    below (suc (suc i)) = omega arith

one_byte : (a : ℕ) → a < 256 → bytes 1 (word (a ∷ [])) ≡ a ∷ []
one_byte a ha = bytes_word (a ∷ []) below
  where
    below : (i : ℕ) → get_or (a ∷ []) i 0 < 256
    below zero = ha
    below (suc i) = omega arith

-- the bytes of a selector are those of the subselectors that are read from them
pub packed_unpacked : (v : Width) (bs : List ℕ) → length bs ≡ selector_bytes v → ((i : ℕ) → i < selector_bytes v → get_or bs i 0 < 256)
    → packed v (unpacked v bs) ≡ bs
unfolding packed unpacked tabulate
packed_unpacked None bs e h = sym (listed 0 bs e)
packed_unpacked Four bs e h =
    (λ j. byte_halves (get_or bs 0 0) (h 0 (omega arith)) j ∷ byte_halves (get_or bs 1 0) (h 1 (omega arith)) j ∷ []) ∙ sym (listed 2 bs e)
packed_unpacked Eight bs e h =
    ap (λ (m : List ℕ). packed Eight (unpacked Eight m)) (listed 4 bs e)
    ∙ (λ j.
    one_byte (get_or bs 0 0) (h 0 (omega arith)) j ++ one_byte (get_or bs 1 0) (h 1 (omega arith)) j ++ one_byte (get_or bs 2 0) (h 2 (omega arith)) j
    ++ one_byte (get_or bs 3 0) (h 3 (omega arith)) j)
    ∙ sym (listed 4 bs e)
packed_unpacked Sixteen bs e h =
    ap (λ (m : List ℕ). packed Sixteen (unpacked Sixteen m)) (listed 8 bs e)
    ∙ (λ j.
    two_bytes (get_or bs 0 0) (get_or bs 1 0) (h 0 (omega arith)) (h 1 (omega arith)) j ++ two_bytes (get_or bs 2 0) (get_or bs 3 0) (h 2 (omega arith)) (h 3 (omega arith)) j
    ++ two_bytes (get_or bs 4 0) (get_or bs 5 0) (h 4 (omega arith)) (h 5 (omega arith)) j ++ two_bytes (get_or bs 6 0) (get_or bs 7 0) (h 6 (omega arith)) (h 7 (omega arith)) j)
    ∙ sym (listed 8 bs e)

-- ---- the round trips of handles

module _ (h : Handle) (o : Holdable h) where
  -- the handle of the width v with the node and the selector that its bytes hold, and with its own
  abbrev back : Width → Handle
  back v =
      handle_of (word (bytes node_bytes h.node)) h.local (elements password_bytes h.password) v
      (unpacked v (packed v h.selector))

  abbrev spelled : Width → Handle
  spelled v = handle_of h.node h.local (elements password_bytes h.password) v h.selector

  same : (v : Width) → h.width ≡ v → spelled v ≡ h
  same v e =
      λ j.
      handle_of h.node h.local (sym (listed password_bytes h.password o.password) j) (sym e j) h.selector

  returned : (v : Width) → h.width ≡ v → back v ≡ h
  returned v e =
      (λ j.
      handle_of (word_bytes_lem node_bytes h.node o.node j) h.local (elements password_bytes h.password) v
      (unpacked_packed v (subst (λ (w : Width). 0 < bits_of w) e o.wide) h.selector o.selector
      (subst (λ (w : Width). Within (bits_of w) h.selector) e o.within) j))
      ∙ same v e

  returns : (v : Width) → h.width ≡ v → decoded (encoded h) ≡ h
  unfolding encoded decoded bytes tabulate packed
  returns None e = absurd (omega (arith, o.wide, ap bits_of e))
  returns Four e = ap (λ (k : Handle). decoded (encoded k)) (sym (same Four e)) ∙ returned Four e
  returns Eight e = ap (λ (k : Handle). decoded (encoded k)) (sym (same Eight e)) ∙ returned Eight e
  returns Sixteen e = ap (λ (k : Handle). decoded (encoded k)) (sym (same Sixteen e)) ∙ returned Sixteen e

  pub decode_encode : decoded (encoded h) ≡ h
  decode_encode = returns h.width refl

module _ (b : List ℕ) (o : (i : ℕ) → get_or b i 0 < 256) where
  -- what precedes the selector, read and written again, and then t
  abbrev again : List ℕ → List ℕ
  again t = bytes node_bytes (word (get_or b 0 0 ∷ get_or b 1 0 ∷ [])) ++ (get_or b local_at 0 ∷ []) ++ elements_from password_at password_bytes b ++ t

  trip : (v : Width) → again (packed v (unpacked v (elements_from selector_at (selector_bytes v) b)))
      ≡ get_or b 0 0 ∷ get_or b 1 0 ∷ get_or b local_at 0 ∷ elements_from password_at password_bytes b ++ elements_from selector_at (selector_bytes v) b
  trip v =
      ap₂ (λ (l t : List ℕ). l ++ (get_or b local_at 0 ∷ []) ++ elements_from password_at password_bytes b ++ t)
      (two_bytes (get_or b 0 0) (get_or b 1 0) (o 0) (o 1))
      (packed_unpacked v (elements_from selector_at (selector_bytes v) b) (length_tabulate (selector_bytes v) (λ k. get_or b (selector_at + k) 0)) below)
    where
      below : (i : ℕ) → i < selector_bytes v → get_or (elements_from selector_at (selector_bytes v) b) i 0 < 256
      below i l =
          subst (λ (n : ℕ). n < 256) (sym (get_d_tabulate (selector_bytes v) (λ k. get_or b (selector_at + k) 0) 0 i l))
          (o (selector_at + i))

  pub encode_decode : (v : Width) → length b ≡ length_of v → encoded (decoded b) ≡ b
  unfolding encoded decoded tabulate
  encode_decode None e = ap (λ (l : List ℕ). encoded (decoded l)) (listed 0 b e) ∙ sym (listed 0 b e)
  encode_decode Four e = ap (λ (l : List ℕ). encoded (decoded l)) (listed 21 b e) ∙ trip Four ∙ sym (listed 21 b e)
  encode_decode Eight e = ap (λ (l : List ℕ). encoded (decoded l)) (listed 23 b e) ∙ trip Eight ∙ sym (listed 23 b e)
  encode_decode Sixteen e = ap (λ (l : List ℕ). encoded (decoded l)) (listed 27 b e) ∙ trip Sixteen ∙ sym (listed 27 b e)

-- the bytes that were laid out are there
pub bytes_laid : (b : List ℕ) → bytes_in (laid b) ≡ b
bytes_laid b = take-append_seam b (replicate (most_bytes - length b) 0)

-- no handle has no bytes
pub encoded_none : encoded no_handle ≡ []
unfolding encoded
encoded_none = refl

-- the handle that a reply gives is read back from it
pub read_laid : (h : Handle) → Holdable h → decoded (bytes_in (laid (encoded h))) ≡ h
read_laid h o = ap decoded (bytes_laid (encoded h)) ∙ decode_encode h o

-- ---- lengths

-- the handle with a password in the place of its own
abbrev passing : Handle → List ℕ → Handle
passing h p = handle_of h.node h.local p h.width h.selector

spelled_length : (v : Width) (h : Handle) → length h.password ≡ password_bytes → length (encoded_as v h) ≡ length_of v
unfolding bytes packed tabulate
spelled_length None h e = refl
spelled_length Four h e = ap (λ (p : List ℕ). length (encoded_as Four (passing h p))) (listed password_bytes h.password e)
spelled_length Eight h e = ap (λ (p : List ℕ). length (encoded_as Eight (passing h p))) (listed password_bytes h.password e)
spelled_length Sixteen h e =
    ap (λ (p : List ℕ). length (encoded_as Sixteen (passing h p))) (listed password_bytes h.password e)

-- the bytes of a handle are as many as its width has
pub length_encoded : (h : Handle) → Holdable h → length (encoded h) ≡ length_of h.width
unfolding encoded
length_encoded h o = spelled_length h.width h o.password

-- and so are those that a handle is read from
pub length_decoded : (b : List ℕ) → 0 < bits_of (decoded b).width → length b ≡ length_of (decoded b).width
unfolding decoded
length_decoded b =
    width_cases (λ v. 0 < bits_of (decoded_as v b).width → length b ≡ length_of (decoded_as v b).width) (length b)
    (λ l. absurd (omega arith)) other
  where
    other : (v : Width) → length b ≡ length_of v → 0 < bits_of (decoded_as v b).width → length b ≡ length_of (decoded_as v b).width
    other None e l = absurd (omega arith)
    other Four e l = e
    other Eight e l = e
    other Sixteen e l = e
