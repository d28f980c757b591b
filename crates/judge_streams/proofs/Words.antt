-- A place in words: what is packed is what is read back.
use mathlib.Core.Path.{◌≡◌, refl, ◌∙◌}
use mathlib.Core.Bool.{Bool, true, false}
use mathlib.Core.List.{List}
use Prim.Native.Nat.{ℕ, ◌+◌, ◌*◌, ◌/◌, ◌%◌, ◌≤◌, ◌<◌}
use native.Mathlib.Nat.{add-mul-mod_self_left, mod-eq_of_lt}
use native.Mathlib.Omega.{arith}
use lib.ListN.{length, get_or, set, length-set}
use lib.Seq.{get_or-set_same, get_or-set_other}
use mir.Val.{bool_byte}
use Rattle.rules.specs.Sent.{flag}
use Rattle.rules.proofs.Ids.{bit_is}
use Rattle.rules.specs.Tests.{bit}
use Rattle.judge_rules.specs.Limits.{streams_max}
use Rattle.judge_stream.specs.inside.Kept.{InRange}
use Rattle.judge_stream.specs.declared.Kept.{Kept}
use Rattle.judge_streams.specs.inside.Table.{table_size, kept_of, kept_at, Stored}

pub byte_le : (b : Bool) → bool_byte b ≤ 1
byte_le true = omega arith
byte_le false = omega arith

byte_flag : (b : Bool) → bool_byte b ≡ flag b
byte_flag true = refl
byte_flag false = refl

lowest : (d m n : ℕ) → d < m → (d + m * n) % m ≡ d
lowest d m n h = add-mul-mod_self_left d m n ∙ mod-eq_of_lt h

abbrev packed : Kept → ℕ
packed k = k.transfer + (bool_byte k.toggle * 32 + (k.count * 64 + (k.sum * 65536 + k.register * 4294967296)))

module _ (k : Kept) (id : k.id < 4294967296) (transfer : k.transfer < 32) (count : k.count < 1024) (sum : k.sum < 65536) (register : k.register < 65536) where
  pub unpacked : kept_of k.id k.since (packed k) ≡ k
  unfolding kept_of
  unpacked =
      let g = byte_le k.toggle in
      let q5 : packed k / 32 ≡ bool_byte k.toggle + 2 * (k.count + 1024 * (k.sum + 65536 * k.register)) = omega arith in
      let q6 : packed k / 64 ≡ k.count + 1024 * (k.sum + 65536 * k.register) = omega arith in
      let q16 : packed k / 65536 ≡ k.sum + 65536 * k.register = omega arith in
      let q32 : packed k / 4294967296 ≡ k.register = omega arith in
      let e1 : k.id % 4294967296 ≡ k.id = omega arith in
      let e2 : packed k % 32 ≡ k.transfer = omega arith in
      let two : packed k / 32 % 2 ≡ bool_byte k.toggle = rw q5 (lowest _ 2 _ (omega arith)) in
      let e3 : bit (packed k) 32 ≡ k.toggle = bit_is (packed k) 32 k.toggle (two ∙ byte_flag k.toggle) in
      let e4 : packed k / 64 % 1024 ≡ k.count = rw q6 (lowest _ 1024 _ count) in
      let e5 : packed k / 65536 % 65536 ≡ k.sum = rw q16 (lowest _ 65536 _ sum) in
      let e6 : packed k / 4294967296 % 65536 ≡ k.register = rw q32 (mod-eq_of_lt register) in
      (λ i. record { id = e1 i; since = k.since; transfer = e2 i; toggle = e3 i; count = e4 i; sum = e5 i; register = e6 i })

-- ── the places after a store ──

module _ (t : List ℕ) (j n : ℕ) (k : Kept) (w : ℕ) where
  abbrev after : List ℕ
  after = set (set (set (set t 0 n) (1 + j) k.id) (65 + j) k.since) (129 + j) w

  module _ (long : length t ≡ table_size) (small : j < streams_max) where
    same-long : length after ≡ table_size
    same-long = simp length-set long

    at_other : (x : ℕ) → (x ≡ 0 → ⊥) → (x ≡ 1 + j → ⊥) → (x ≡ 65 + j → ⊥) → (x ≡ 129 + j → ⊥) → get_or after x 0 ≡ get_or t x 0
    at_other x a b c d =
        get_or-set_other (set (set (set t 0 n) (1 + j) k.id) (65 + j) k.since) (129 + j) x w 0 d
        ∙ get_or-set_other (set (set t 0 n) (1 + j) k.id) (65 + j) x k.since 0 c
        ∙ get_or-set_other (set t 0 n) (1 + j) x k.id 0 b
        ∙ get_or-set_other t 0 x n 0 a

    at_count : get_or after 0 0 ≡ n
    at_count =
        get_or-set_other (set (set (set t 0 n) (1 + j) k.id) (65 + j) k.since) (129 + j) 0 w 0 (λ e. omega arith)
        ∙ get_or-set_other (set (set t 0 n) (1 + j) k.id) (65 + j) 0 k.since 0 (λ e. omega arith)
        ∙ get_or-set_other (set t 0 n) (1 + j) 0 k.id 0 (λ e. omega arith)
        ∙ get_or-set_same t 0 n 0 (omega arith)

    at-id : get_or after (1 + j) 0 ≡ k.id
    at-id =
        get_or-set_other (set (set (set t 0 n) (1 + j) k.id) (65 + j) k.since) (129 + j) (1 + j) w 0 (λ e. omega arith)
        ∙ get_or-set_other (set (set t 0 n) (1 + j) k.id) (65 + j) (1 + j) k.since 0 (λ e. omega arith)
        ∙ get_or-set_same (set t 0 n) (1 + j) k.id 0 (simp length-set (omega arith))

    at-start : get_or after (65 + j) 0 ≡ k.since
    at-start =
        get_or-set_other (set (set (set t 0 n) (1 + j) k.id) (65 + j) k.since) (129 + j) (65 + j) w 0 (λ e. omega arith)
        ∙ get_or-set_same (set (set t 0 n) (1 + j) k.id) (65 + j) k.since 0 (simp length-set (omega arith))

    at-progress : get_or after (129 + j) 0 ≡ w
    at-progress = get_or-set_same (set (set (set t 0 n) (1 + j) k.id) (65 + j) k.since) (129 + j) w 0 (simp length-set (omega arith))

    pub stored : kept_of k.id k.since w ≡ k → Stored t j n k after
    stored e =
        record {
          long = same-long;
          count = at_count;
          here = (λ i. kept_of (at-id i) (at-start i) (at-progress i)) ∙ e;
          others =
              λ i l ne.
              let a = at_other (1 + i) (λ q. omega arith) (λ q. ne (omega arith)) (λ q. omega arith) (λ q. omega arith) in
              let b = at_other (65 + i) (λ q. omega arith) (λ q. omega arith) (λ q. ne (omega arith)) (λ q. omega arith) in
              let c = at_other (129 + i) (λ q. omega arith) (λ q. omega arith) (λ q. omega arith) (λ q. ne (omega arith)) in
              λ x. kept_of (a x) (b x) (c x);
        }

-- ── what is read ──

pub in-range : (t : List ℕ) (j : ℕ) → InRange (kept_at t j)
unfolding kept_of
in-range t j = record { transfer = omega arith; count = omega arith }
