-- ExecuteOpcode in a payload, and as it is written.
use mathlib.Core.Path.{◌≡◌, refl, sym, ap, ◌∙◌}
use mathlib.Core.Bool.{Bool, true, false}
use mathlib.Core.List.{List, [], ◌∷◌, ◌++◌, append-nil}
use Prim.Native.Nat.{ℕ, ◌*◌, ◌-◌, ◌≤◌, ◌<◌}
use native.Mathlib.Omega.{arith}
use lib.IntN.{ℤ, pos}
use lib.ListN.{length, drop, replicate, length-append, length-drop}
use Rattle.bits.specs.Order.{unpack, to_bits, from_bits, bytes_for, padding, store}
use Rattle.bits.proofs.Bytes.{length-unpack}
use Rattle.bits.proofs.Numbers.{length-to_bits}
use Rattle.shape.specs.Answer.{refused, got}
use Rattle.shape.specs.Cast.{unsigned, signed, saturated, cast_bits}
use Rattle.shape.specs.Signed.{signed_of}
use Rattle.shape.specs.Shape.{end, encode, decode, decoded, fits}
use Rattle.shape.proofs.Reading.{value, integer, with_head, head_read, head_bytes, head-short, end_none, end-left, refused-on, got-on}
use Rattle.shape.proofs.Writing.{more}
use Rattle.protocol_param.specs.ExecuteOpcode.{opcode_request, opcode_response, request_values, request_of, response_values, response_of, request_at, response_at}
use Rattle.protocol_param.specs.declared.execute_opcode_request.Request.{Request}
use Rattle.protocol_param.specs.declared.execute_opcode_response.Response.{Response}

-- ── reading ──

module _ (p : List ℕ) where
  pub cut-request : length p < 7 → decoded opcode_request p ≡ refused 15
  cut-request h = head-short (value 8 ∷ integer 48 ∷ []) end (unpack p) (omega (arith, length-unpack p))

  pub long-request : 7 < length p → decoded opcode_request p ≡ refused 16
  long-request h =
      refused-on (with_head (value 8 ∷ integer 48 ∷ []) end (unpack p) 0) (head_bytes (value 8 ∷ integer 48 ∷ []) end 7 refl p (omega arith))
      (end-left (unpack (drop 7 p)) (omega (arith, length-unpack (drop 7 p), length-drop 7 p)))

  pub held-request : length p ≡ 7 → decoded opcode_request p ≡ got (request_values (request_at (unpack p)))
  unfolding request_at
  held-request h =
      got-on (with_head (value 8 ∷ integer 48 ∷ []) end (unpack p) 0) (head_bytes (value 8 ∷ integer 48 ∷ []) end 7 refl p (omega arith))
      (end_none (unpack (drop 7 p)) (omega (arith, length-unpack (drop 7 p), length-drop 7 p)))

  pub cut-response : length p < 7 → decoded opcode_response p ≡ refused 15
  cut-response h = head-short (integer 48 ∷ value 1 ∷ []) end (unpack p) (omega (arith, length-unpack p))

  module _ (h : 7 ≤ length p) where
    pub stop-response : (n : ℕ) → decode end (drop 49 (unpack p)) ≡ refused n → decoded opcode_response p ≡ refused n
    stop-response n e =
        refused-on (with_head (integer 48 ∷ value 1 ∷ []) end (unpack p) 0)
        (head_read (integer 48 ∷ value 1 ∷ []) end (unpack p) 0 (omega (arith, length-unpack p))) e

    pub held-response : decode end (drop 49 (unpack p)) ≡ got tt → decoded opcode_response p ≡ got (response_values (response_at (unpack p)))
    unfolding response_at
    held-response e =
        got-on (with_head (integer 48 ∷ value 1 ∷ []) end (unpack p) 0)
        (head_read (integer 48 ∷ value 1 ∷ []) end (unpack p) 0 (omega (arith, length-unpack p))) e

-- ── the structs ──

pub made-request : (p : List ℕ) (i j : ℤ) → i ≡ pos (from_bits 8 (unpack p)) → j ≡ signed_of 48 (from_bits 48 (drop 8 (unpack p)))
    → ◌≡◌ {A = Request} (record { opcode = i; argument = j }) (request_of (request_values (request_at (unpack p))))
unfolding request_at
made-request p i j e f = rw (e, f)

pub made-response : (p : List ℕ) (i j : ℤ) → i ≡ signed_of 48 (from_bits 48 (unpack p)) → j ≡ pos (from_bits 1 (drop 48 (unpack p)))
    → ◌≡◌ {A = Response} (record { argument = i; ok = j }) (response_of (response_values (response_at (unpack p))))
unfolding response_at
made-response p i j e f = rw (e, f)

-- ── writing ──

module _ (x : Request) where
  pub fit-request : fits opcode_request (request_values x) ≡ true
  unfolding fits
  fit-request = refl

  pub size-request : length (encode opcode_request (request_values x)) ≡ 7 * 8
  unfolding encode
  size-request =
      let a = to_bits 8 (cast_bits unsigned saturated 8 x.opcode) in
      let b = to_bits 48 (cast_bits signed saturated 48 x.argument) in
      length-append a (b ++ []) ∙ omega (arith, length-append b [], length-to_bits 8 (cast_bits unsigned saturated 8 x.opcode), length-to_bits 48 (cast_bits signed saturated 48 x.argument))

  pub stored-request : (m m₁ m₂ : List ℕ) → 7 ≤ length m → m₁ ≡ store m 0 (to_bits 8 (cast_bits unsigned saturated 8 x.opcode))
      → m₂ ≡ store m₁ 8 (to_bits 48 (cast_bits signed saturated 48 x.argument)) → m₂ ≡ store m 0 (encode opcode_request (request_values x))
  unfolding encode
  stored-request m m₁ m₂ h e f =
      let a = to_bits 8 (cast_bits unsigned saturated 8 x.opcode) in
      let b = to_bits 48 (cast_bits signed saturated 48 x.argument) in
      more m m₁ m₂ a b 8 e (length-to_bits 8 (cast_bits unsigned saturated 8 x.opcode)) (omega arith) f ∙ ap (λ (l : List Bool). store m 0 (a ++ l)) (sym (append-nil b))

module _ (x : Response) where
  pub fit-response : fits opcode_response (response_values x) ≡ true
  unfolding fits
  fit-response = refl

  abbrev argument : List Bool
  argument = to_bits 48 (cast_bits signed saturated 48 x.argument)

  abbrev ok : List Bool
  ok = to_bits 1 (cast_bits unsigned saturated 1 x.ok)

  both : length (argument ++ ok) ≡ 49
  both =
      length-append argument ok ∙ omega (arith, length-to_bits 48 (cast_bits signed saturated 48 x.argument), length-to_bits 1 (cast_bits unsigned saturated 1 x.ok))

  bits : encode opcode_response (response_values x) ≡ argument ++ ok
  unfolding encode
  bits = ap (λ (l : List Bool). argument ++ l) (append-nil ok)

  size : length (encode opcode_response (response_values x)) ≡ 49
  size = ap length bits ∙ both

  pub bytes-response : bytes_for (length (encode opcode_response (response_values x))) ≡ 7
  bytes-response = ap bytes_for size

  pub stored-response : (m m₁ m₂ m₃ : List ℕ) → 7 ≤ length m → m₁ ≡ store m 0 argument → m₂ ≡ store m₁ 48 ok
      → m₃ ≡ store m₂ 49 (replicate (bytes_for 49 * 8 - 49) false)
      → m₃ ≡ store m 0 (encode opcode_response (response_values x) ++ padding (encode opcode_response (response_values x)))
  stored-response m m₁ m₂ m₃ h e f g =
      let z = replicate (bytes_for 49 * 8 - 49) false in
      more m m₂ m₃ (argument ++ ok) z 49 (more m m₁ m₂ argument ok 48 e (length-to_bits 48 (cast_bits signed saturated 48 x.argument)) (omega arith) f) both (omega arith) g
      ∙ ap (λ (l : List Bool). store m 0 (l ++ z)) (sym bits)
      ∙ ap (λ (k : ℕ). store m 0 (encode opcode_response (response_values x) ++ replicate (bytes_for k * 8 - k) false)) (sym size)
