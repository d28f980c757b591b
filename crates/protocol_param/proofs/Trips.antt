-- The return trips, from what is read of a payload.
use mathlib.Core.Path.{◌≡◌, refl}
use mathlib.Core.List.{List}
use Prim.Native.Nat.{ℕ, zero, suc, ◌+◌, ◌%◌, ◌≤◌}
use native.Mathlib.Omega.{arith}
use lib.Dec.{lit≤}
use lib.ListN.{length, drop}
use Rattle.bits.specs.Order.{Octets, unpack}
use Rattle.bits.specs.Width.{width_of}
use Rattle.shape.specs.Answer.{Answer, refused, got}
use Rattle.shape.specs.Shape.{Shape, end, void, tag_width, Values, decode, decoded}
use Rattle.shape.specs.Laws.{Sound, Whole, OnBytes}
use Rattle.shape.proofs.Reading.{never, only}
use Rattle.shape.proofs.RoundTrip.{whole_same}
use Rattle.shape.proofs.Tails.{never-25}
use Rattle.shape.proofs.Trip.{trips}
use Rattle.protocol_param.specs.Value.{value_then, union}
use Rattle.protocol_param.specs.GetSetRequest.{name_only, request, request_name_in, request_of}
use Rattle.protocol_param.specs.GetSetResponse.{min_then, max_then, default_then, response, default_at, max_at, min_at, name_in, response_of}
use Rattle.protocol_param.specs.ExecuteOpcode as opcode
use Rattle.protocol_param.specs.Laws.{request_found, response_found, opcode_request_found, opcode_response_found, Laws}
use Rattle.protocol_param.proofs.ValueFacts.{eight, three, two, either, by_length}
use Rattle.protocol_param.proofs.GetSetFacts.{request-stop, request-long, request-held, stop-value, stop-default, stop-max, stop-min, response-long, response-held}
use Rattle.protocol_param.proofs.OpcodeFacts.{cut-request, long-request, held-request, cut-response, stop-response, held-response}

-- ── the union in a description ──

value-sound : (d : Shape) → Sound d → (t : ℕ) → Sound (value_then d t)
value-sound d h zero = h
value-sound d h (suc zero) = (lit≤ tt, h)
value-sound d h (suc (suc zero)) = h
value-sound d h (suc (suc (suc zero))) = h
value-sound d h (suc (suc (suc (suc zero)))) = h
value-sound d h (suc (suc (suc (suc (suc t))))) = h

value-whole : (d : Shape) → Whole d → (t : ℕ) → Whole (value_then d t)
value-whole d h zero = h
value-whole d h (suc zero) = h
value-whole d h (suc (suc zero)) = h
value-whole d h (suc (suc (suc zero))) = h
value-whole d h (suc (suc (suc (suc zero)))) = h
value-whole d h (suc (suc (suc (suc (suc t))))) = h

-- from whole bytes on
abbrev OnWhole : Shape → Type 0
OnWhole d = (k : ℕ) → k % 8 ≡ 0 → OnBytes k d

value-bytes : (d : Shape) → OnWhole d → (k : ℕ) → k % 8 ≡ 0 → (t : ℕ) → OnBytes k (value_then d t)
value-bytes d h k e zero = h k e
value-bytes d h k e (suc zero) = h (k + 64) (omega arith)
value-bytes d h k e (suc (suc zero)) = h (k + 32) (omega arith)
value-bytes d h k e (suc (suc (suc zero))) = h (k + 8) (omega arith)
value-bytes d h k e (suc (suc (suc (suc zero)))) = (refl, h (k + width_of 128) (omega (arith, eight)))
value-bytes d h k e (suc (suc (suc (suc (suc t))))) = h k e

padded-bytes : (n i : ℕ) → i + tag_width n ≡ 8 → (d : Shape) → OnWhole d → OnWhole (void i (union n d))
padded-bytes n i s d h k e = λ t l. value-bytes d h (k + i + tag_width n) (omega arith) t

name-bytes : OnWhole name_only
name-bytes k e = (refl, e)

-- ── nothing else is read ──

request-only : (p : List ℕ) → Octets p → (v : Values request) → decoded request p ≡ got v → v ≡ request_found p
request-only p o v g =
    either 5 (drop 1 p) (λ k h. absurd (never (request-stop p o (suc k) h) g))
    (λ a. by_length (length (request_name_in p)) 92 (λ h. absurd (never (request-long p o a h) g)) (λ h. only g (request-held p o a h)))

response-only : (p : List ℕ) → Octets p → (v : Values response) → decoded response p ≡ got v → v ≡ response_found p
response-only p o v g =
    either 5 p (λ k h. absurd (never (stop-value p o (suc k) h) g))
    (λ a. either 5 (drop (default_at p) p) (λ k h. absurd (never (stop-default p o a (suc k) h) g))
    (λ b. either 3 (drop (max_at p) p) (λ k h. absurd (never (stop-max p o a b (suc k) h) g))
    (λ c. either 3 (drop (min_at p) p) (λ k h. absurd (never (stop-min p o a b c (suc k) h) g))
    (λ d. by_length (length (name_in p)) 92 (λ h. absurd (never (response-long p o a b c d h) g)) (λ h. only g (response-held p o a b c d h))))))

opcode-request-only : (p : List ℕ) → Octets p → (v : Values opcode.opcode_request) → decoded opcode.opcode_request p ≡ got v → v ≡ opcode_request_found p
opcode-request-only p o v g =
    by_length 7 (length p) (λ h. absurd (never (cut-request p h) g))
    (λ l. by_length (length p) 7 (λ h. absurd (never (long-request p h) g)) (λ h. only g (held-request p (omega arith))))

-- the bits left over
module _ (p : List ℕ) (v : Values opcode.opcode_response) (g : decoded opcode.opcode_response p ≡ got v) (l : 7 ≤ length p) where
  left_over : (r : Answer (Values end)) → decode end (drop 49 (unpack p)) ≡ r → v ≡ opcode_response_found p
  left_over (refused k) e = absurd (never (stop-response p l k e) g)
  left_over (got u) e = only g (held-response p l e)

opcode-response-only : (p : List ℕ) → Octets p → (v : Values opcode.opcode_response) → decoded opcode.opcode_response p ≡ got v → v ≡ opcode_response_found p
opcode-response-only p o v g =
    by_length 7 (length p) (λ h. absurd (never (cut-response p h) g))
    (λ l. left_over p v g l (decode end (drop 49 (unpack p))) refl)

-- ── the laws ──

whole-bits : Whole request
whole-bits = λ t. value-whole name_only tt t

sound-request : Sound request
sound-request = λ t l. value-sound name_only (lit≤ tt) t

sound-response : Sound response
sound-response =
    λ t l. value-sound default_then (λ t l. value-sound max_then (λ t l. value-sound min_then (λ t l. value-sound name_only (lit≤ tt) t) t) t) t

bytes-request : OnBytes 0 request
bytes-request = λ t l. value-bytes name_only name-bytes (13 + tag_width 5) (omega (arith, three)) t

bytes-response : OnWhole response
bytes-response =
    padded-bytes 5 5 (omega (arith, three)) default_then (padded-bytes 5 5 (omega (arith, three)) max_then
    (padded-bytes 3 6 (omega (arith, two)) min_then (padded-bytes 3 6 (omega (arith, two)) name_only name-bytes)))

pub laws : Laws
laws =
    record {
      requests = trips request sound-request request_of request_found request-only;
      responses = trips response sound-response response_of response_found response-only;
      opcode-requests = trips opcode.opcode_request (lit≤ tt, tt) opcode.request_of opcode_request_found opcode-request-only;
      opcode-responses = trips opcode.opcode_response (lit≤ tt, tt) opcode.response_of opcode_response_found opcode-response-only;
      whole-request = whole_same request whole-bits;
      whole-opcode-request = whole_same opcode.opcode_request tt;
      whole-opcode-response = whole_same opcode.opcode_response tt;
      never-25 = (never-25 request bytes-request, (never-25 response (bytes-response 0 refl), never-25 opcode.opcode_request refl));
    }
