-- Laws of the call's answers, in their order.
use mathlib.Core.Path.{◌≡◌, sym, ap, ◌∙◌}
use mathlib.Core.Bool.{Bool, true, false, not, cond, ◌||◌}
use mathlib.Core.List.{List}
use mathlib.Core.Option.{Option, none, some}
use Prim.Native.Nat.{ℕ, ◌*◌, ◌/◌, ◌≤◌, ◌<◌}
use native.Mathlib.Omega.{arith}
use borrow.Author.Tests.{lt-ltb, le-ltb}
use lib.Dec.{ltb}
use lib.ListN.{length, get_or}
use Rattle.bits.specs.Part.{splice}
use Rattle.bits.proofs.Tabulate.{length-tabulate}
use Rattle.dsdl_given.specs.Given.{Definition, lengths_in, length_at, oversized, fault_from}
use Rattle.dsdl_given.specs.inside.Places.{definition_at, given, Bounds}
use Rattle.dsdl_given.proofs.Located.{placed}
use Rattle.dsdl_nesting.specs.Nesting.{all_given, all_within}
use Rattle.std.specs.Prelude.{Ok, Err}
use Rattle.dsdl_signature.specs.declared.answer.Refusal.TheVariants.{Oversized, Missing, Deep, Short}
use Rattle.dsdl_signature.specs.Call.{forms, records_of, record_size, Result, returned, ordered, faulty, or_faulty, result_of, signatures}
use Rattle.dsdl_signature.specs.inside.Written.{form_at, Ends}
use Rattle.dsdl_signature.proofs.Joined.{forms-joined, joined_length}

-- ── 41, 42, 8 and 0, by the tests that decide ──

module _ (g w a b : Bool) (ds : List Definition) (out records : List ℕ) where
  abbrev answered : Result
  answered = result_of (cond (not g) (Err Missing) (cond (not w) (Err Deep) (cond (a || b) (Err Short) (Ok tt)))) ds out records

  by-missing : g ≡ false → returned (Err Missing) out records ≡ answered
  by-missing e = rw e

  by-deep : g ≡ true → w ≡ false → returned (Err Deep) out records ≡ answered
  by-deep e f = rw (e, f)

  by-room : g ≡ true → w ≡ true → a ≡ true → returned (Err Short) out records ≡ answered
  by-room e f h = rw (e, f, h)

  by-places : g ≡ true → w ≡ true → a ≡ false → b ≡ true → returned (Err Short) out records ≡ answered
  by-places e f h k = rw (e, f, h, k)

  by-done : g ≡ true → w ≡ true → a ≡ false → b ≡ false → returned (Ok tt) (splice out 0 (forms ds)) (splice records 0 (records_of ds ds)) ≡ answered
  by-done e f h k = rw (e, f, h, k)

-- the end of the last form is the length of all
pub all-forms : (source bounds ends : List ℕ) (n : ℕ) → Ends source bounds ends n → get_or ends n 0 ≡ length (forms (given source bounds n))
all-forms source bounds ends n e = sym (ap length (forms-joined (definition_at source bounds) 0 n) ∙ joined_length (form_at source bounds) ends n e n (omega arith))

module _ (source bounds : List ℕ) (n : ℕ) (out records : List ℕ) where
  abbrev ds : List Definition
  ds = given source bounds n

  abbrev small : Bool
  small = ltb (length out) (length (forms ds))

  abbrev few : Bool
  few = ltb (length records / record_size) (length ds)

  abbrev decided : Result
  decided = result_of (ordered ds (length out) (length records / record_size)) ds out records

  pub missing : all_given ds ≡ false → returned (Err Missing) out records ≡ decided
  missing e = by-missing (all_given ds) (all_within ds) small few ds out records e

  module _ (all-given : all_given ds ≡ true) where
    pub deep : all_within ds ≡ false → returned (Err Deep) out records ≡ decided
    deep e = by-deep (all_given ds) (all_within ds) small few ds out records all-given e

    module _ (all-within : all_within ds ≡ true) (ends : List ℕ) (placed-forms : Ends source bounds ends n) where
      pub no_room : length out < get_or ends n 0 → returned (Err Short) out records ≡ decided
      no_room h = by-room (all_given ds) (all_within ds) small few ds out records all-given all-within (lt-ltb (length out) (length (forms ds)) (omega (arith, all-forms source bounds ends n placed-forms)))

      module _ (fits : get_or ends n 0 ≤ length out) where
        roomy : small ≡ false
        roomy = le-ltb (length out) (length (forms ds)) (omega (arith, all-forms source bounds ends n placed-forms))

        pub no-places : length records / record_size < n → returned (Err Short) out records ≡ decided
        no-places h = by-places (all_given ds) (all_within ds) small few ds out records all-given all-within roomy (lt-ltb (length records / record_size) (length ds) (omega (arith, length-tabulate (definition_at source bounds) 0 n)))

        pub done : n ≤ length records / record_size → returned (Ok tt) (splice out 0 (forms ds)) (splice records 0 (records_of ds ds)) ≡ decided
        done h = by-done (all_given ds) (all_within ds) small few ds out records all-given all-within roomy (le-ltb (length records / record_size) (length ds) (omega (arith, length-tabulate (definition_at source bounds) 0 n)))

-- ── 43, 40, and the others ──

module _ (source lengths out records : List ℕ) where
  pub too_large : oversized source (lengths_in lengths) ≡ true → returned (Err Oversized) out records ≡ signatures source lengths out records
  unfolding signatures
  too_large e = rw e

  module _ (fine : oversized source (lengths_in lengths) ≡ false) (bounds : List ℕ) (bound : Bounds (length_at lengths) bounds (length lengths / 8 * 2)) where
    abbrev n : ℕ
    n = length lengths / 8

    by-fault : (f : Option (ℕ × ℕ)) → f ≡ fault_from 1 (given source bounds n)
        → result_of (or_faulty f (ordered (given source bounds n) (length out) (length records / record_size))) (given source bounds n) out records ≡ signatures source lengths out records
    unfolding signatures
    by-fault f e =
        ap (λ (x : Option (ℕ × ℕ)). result_of (or_faulty x (ordered (given source bounds n) (length out) (length records / record_size))) (given source bounds n) out records) e
        ∙ (ap (λ (ds : List Definition). result_of (or_faulty (fault_from 1 ds) (ordered ds (length out) (length records / record_size))) ds out records) (sym (placed lengths bounds n bound source))
        ∙ rw fine)

    pub at-fault : (i line : ℕ) → some (i, line) ≡ fault_from 1 (given source bounds n) → returned (faulty i line) out records ≡ signatures source lengths out records
    at-fault i line e = by-fault (some (i, line)) e

    pub no-fault : none ≡ fault_from 1 (given source bounds n)
        → result_of (ordered (given source bounds n) (length out) (length records / record_size)) (given source bounds n) out records ≡ signatures source lengths out records
    no-fault e = by-fault none e
