-- GetNodeInfo's response: what its reader goes by.
use mathlib.Core.Path.{◌≡◌, refl, ap, ◌∙◌}
use mathlib.Core.Bool.{Bool, true, false}
use mathlib.Core.List.{List, [], ◌∷◌}
use Prim.Native.Nat.{ℕ, ◌+◌, ◌^◌, ◌≤◌, ◌<◌}
use native.Mathlib.Omega.{arith}
use borrow.Author.Tests.{ltb-true, ltb-false}
use lib.Dec.{ltb}
use lib.IntN.{ℤ}
use lib.ListN.{length, drop, length-drop, drop_of_length-le}
use lib.Seq.{drop-drop, length-take-le}
use Rattle.bits.specs.Order.{Octets, value_from, unpack, number, from_bits}
use Rattle.bits.specs.Width.{width_in, width_of}
use Rattle.bits.proofs.Bytes.{length-unpack, drop-unpack}
use Rattle.bits.proofs.Numbers.{from_bits-lt}
use Rattle.bits.proofs.Octets.{octets-drop}
use Rattle.shape.specs.Answer.{refused, got, numbered, map_answer}
use Rattle.shape.specs.Shape.{Shape, list, tail, Values, decode, decoded}
use Rattle.shape.proofs.Reading.{Slot, value, same, gap, with_head, head-short, head_bytes, refused-on, got-on, never, items-short, items-read, list-none, list-short, list_read, tail-long, tail-not, tail-got}
use Rattle.shape.proofs.Reading as reading
use Rattle.protocol.specs.NodeStatus.{status_at}
use Rattle.protocol.specs.Name.{is_name}
use Rattle.protocol.specs.GetNodeInfoResponse.{lists, response, certificate_length, unique_id_in, certificate_in, name_in, response_of, response_in, numbers_at}
use Rattle.protocol.specs.Laws.{response_found}
use Rattle.protocol.specs.declared.get_node_info_response.Numbers.{Numbers}
use Rattle.protocol.specs.declared.get_node_info_response.Response.{Response}

abbrev head : List Slot
head =
    value 32 ∷ value 2 ∷ value 3 ∷ gap 3 ∷ value 16 ∷ value 8 ∷ value 8 ∷ value 8 ∷ value 32 ∷ same 64 ∷ value 8 ∷ value 8 ∷ []

abbrev named : Shape
named = tail 8 80 is_name

abbrev certified : Shape
certified = list 8 255 named

pub eight : width_of 255 ≡ 8
unfolding width_of width_in
eight = refl

pub none : (s : List ℕ) → length s < 41 → 0 ≡ certificate_length s
unfolding certificate_length width_of width_in from_bits number value_from
none s h =
    let l : length (unpack s) ≤ 320 = omega (arith, length-unpack s) in
    rw (drop_of_length-le (unpack s) l)

module _ (s : List ℕ) (h : 41 ≤ length s) where
  is : certificate_length s ≡ from_bits (width_of 255) (unpack (drop 40 s))
  unfolding certificate_length
  is = ap (λ (b : List Bool). from_bits (width_of 255) b) (drop-unpack 40 s)

  field : width_of 255 ≤ length (unpack (drop 40 s))
  field = omega (arith, eight, length-unpack (drop 40 s), length-drop 40 s)

  behind : drop (width_of 255) (unpack (drop 40 s)) ≡ unpack (drop 41 s)
  behind = rw eight (drop-unpack 1 (drop 40 s) ∙ ap (λ (l : List ℕ). unpack l) (drop-drop 1 40 s))

  some_below : certificate_length s < 256
  some_below =
      let l : from_bits (width_of 255) (unpack (drop 40 s)) < 2 ^ width_of 255 = from_bits-lt (width_of 255) (unpack (drop 40 s)) field in
      let p : 2 ^ width_of 255 ≡ 256 = ap (λ (w : ℕ). 2 ^ w) eight in
      omega (arith, is)

-- eight bits hold the length
pub below : (s : List ℕ) → certificate_length s < 256
below s = go (ltb (length s) 41) refl where
  go : (b : Bool) → ltb (length s) 41 ≡ b → certificate_length s < 256
  go true e = omega (arith, none s (ltb-true (length s) 41 e))
  go false e = some_below s (ltb-false (length s) 41 e)

module _ (s : List ℕ) (o : Octets s) where
  abbrev n : ℕ
  n = certificate_length s

  abbrev with-numbers : Values lists → Values response
  with-numbers v = with_head head lists (unpack s) 0 v

  abbrev with-id : Values certified → Values lists
  with-id v = (unique_id_in s, v)

  abbrev with-certificate : Values named → Values certified
  with-certificate v = (certificate_in s, v)

  numbers : 24 ≤ length s → decoded response s ≡ map_answer with-numbers (decode lists (unpack (drop 24 s)))
  numbers h = head_bytes head lists 24 refl s h

  ids : 40 ≤ length s → decode lists (unpack (drop 24 s)) ≡ map_answer with-id (decode certified (unpack (drop 40 s)))
  ids h =
      items-read 16 certified (drop 24 s) (octets-drop 24 s o) (omega (arith, length-drop 24 s))
      ∙ ap (λ (l : List ℕ). map_answer with-id (decode certified (unpack l))) (drop-drop 16 24 s)

  -- the payload ends before the certificate does
  ends : length s < 41 + n → decoded response s ≡ refused 15
  ends l = go (ltb (length s) 24) (ltb (length s) 40) (ltb (length s) 41) refl refl refl where
    go : (a b c : Bool) → ltb (length s) 24 ≡ a → ltb (length s) 40 ≡ b → ltb (length s) 41 ≡ c → decoded response s ≡ refused 15
    go true b c ea eb ec = head-short head lists (unpack s) (omega (arith, length-unpack s, ltb-true (length s) 24 ea))
    go false true c ea eb ec =
        refused-on with-numbers (numbers (ltb-false (length s) 24 ea))
        (items-short 16 certified (drop 24 s) (octets-drop 24 s o) (omega (arith, length-drop 24 s, ltb-true (length s) 40 eb)))
    go false false true ea eb ec =
        refused-on with-numbers (numbers (ltb-false (length s) 24 ea))
        (refused-on with-id (ids (ltb-false (length s) 40 eb))
        (list-none 255 named (unpack (drop 40 s)) (omega (arith, eight, length-unpack (drop 40 s), length-drop 40 s, ltb-true (length s) 41 ec))))
    go false false false ea eb ec =
        let h : 41 ≤ length s = ltb-false (length s) 41 ec in
        refused-on with-numbers (numbers (ltb-false (length s) 24 ea))
        (refused-on with-id (ids (ltb-false (length s) 40 eb))
        (list-short 255 named (unpack (drop 40 s)) (field s h) (drop 41 s) (octets-drop 41 s o) (behind s h) n (is s h) (omega (arith, length-drop 41 s))))

  pub cut : length s < 41 + n → response_in s ≡ numbered (refused 15)
  cut l = ap numbered (refused-on response_of refl (ends l))

  module _ (l : 41 + n ≤ length s) where
    certificates : decode certified (unpack (drop 40 s)) ≡ map_answer with-certificate (decode named (unpack (name_in s)))
    certificates =
        list_read 255 named (unpack (drop 40 s)) (field s (omega arith)) (drop 41 s) (octets-drop 41 s o) (behind s (omega arith)) n (is s (omega arith))
        (omega (arith, length-drop 41 s)) (omega (arith, below s))
        ∙ ap (λ (x : List ℕ). map_answer with-certificate (decode named (unpack x))) (drop-drop n 41 s)

    refuses : (k : ℕ) → decode named (unpack (name_in s)) ≡ refused k → decoded response s ≡ refused k
    refuses k e =
        refused-on with-numbers (numbers (omega arith)) (refused-on with-id (ids (omega arith)) (refused-on with-certificate certificates e))

    too_many : 80 < length (name_in s) → decoded response s ≡ refused 16
    too_many g = refuses 16 (tail-long 80 is_name (name_in s) (octets-drop (41 + n) s o) g)

    unnamed : length (name_in s) ≤ 80 → is_name (name_in s) ≡ false → decoded response s ≡ refused 17
    unnamed g k = refuses 17 (tail-not 80 is_name (name_in s) (octets-drop (41 + n) s o) g k)

    read : length (name_in s) ≤ 80 → is_name (name_in s) ≡ true → decoded response s ≡ got (response_found s)
    unfolding numbers_at status_at
    read g k =
        got-on with-numbers (numbers (omega arith))
        (got-on with-id (ids (omega arith)) (got-on with-certificate certificates (tail-got 80 is_name (name_in s) (octets-drop (41 + n) s o) g k)))

    pub long : 80 < length (name_in s) → response_in s ≡ numbered (refused 16)
    long g = ap numbered (refused-on response_of refl (too_many g))

    pub bad-name : length (name_in s) ≤ 80 → is_name (name_in s) ≡ false → response_in s ≡ numbered (refused 17)
    bad-name g k = ap numbered (refused-on response_of refl (unnamed g k))

    pub held : length (name_in s) ≤ 80 → is_name (name_in s) ≡ true → response_in s ≡ numbered (got (response_of (response_found s)))
    held g k = ap numbered (got-on response_of refl (read g k))

    pub certificate-len : length (certificate_in s) ≡ n
    certificate-len = length-take-le n (drop 41 s) (omega (arith, length-drop 41 s))

  -- nothing else is read
  pub only : (v : Values response) → decoded response s ≡ got v → v ≡ response_found s
  only v e = go (ltb (length s) (41 + n)) (ltb 80 (length (name_in s))) (is_name (name_in s)) refl refl refl where
    go : (a b c : Bool) → ltb (length s) (41 + n) ≡ a → ltb 80 (length (name_in s)) ≡ b → is_name (name_in s) ≡ c → v ≡ response_found s
    go true b c ea eb ec = absurd (never (ends (ltb-true (length s) (41 + n) ea)) e)
    go false true c ea eb ec = absurd (never (too_many (ltb-false (length s) (41 + n) ea) (ltb-true 80 (length (name_in s)) eb)) e)
    go false false false ea eb ec = absurd (never (unnamed (ltb-false (length s) (41 + n) ea) (ltb-false 80 (length (name_in s)) eb) ec) e)
    go false false true ea eb ec = reading.only e (read (ltb-false (length s) (41 + n) ea) (ltb-false 80 (length (name_in s)) eb) ec)

  -- the struct of what is at these places
  pub made : (m : Numbers) (h r : ℤ) (u c a l : ℕ) → m ≡ numbers_at (unpack s) → h ≡ m.hardware_version_major → r ≡ m.hardware_version_minor
      → u ≡ length (unique_id_in s) → c ≡ length (certificate_in s) → a ≡ 41 + length (certificate_in s) → l ≡ length (name_in s)
      → ◌≡◌ {A = Response}
      (record {
        status = m.status;
        software_version = m.software_version;
        hardware_version = record {
          major = h;
          minor = r;
          unique_id = record { at = 24; len = u };
          certificate_of_authenticity = record { at = 41; len = c };
        };
        name = record { at = a; len = l };
      })
      (response_of (response_found s))
  unfolding numbers_at status_at
  made m h r u c a l e₁ e₂ e₃ e₄ e₅ e₆ e₇ = rw (e₂, e₃, e₁, e₄, e₅, e₆, e₇)
