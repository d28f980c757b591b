-- Reals that are no floats, in rows of GetSet: 27 if a tag is one that no case has, else 17.
use mathlib.Core.Path.{◌≡◌, refl, sym, ap, ◌∙◌}
use mathlib.Core.Bool.{Bool, true, false, ◌&&◌, ◌||◌}
use mathlib.Core.List.{List, []}
use Prim.Native.Nat.{ℕ, zero, suc, ◌+◌, ◌-◌, ◌^◌, ◌≤◌, min}
use native.Mathlib.Omega.{arith}
use borrow.Author.Tests.{ltb-true, ltb-false, lt-ltb, le-ltb, eqb-true}
use lib.Dec.{ltb, leb, eqb, lit≤}
use lib.IntN.{ℤ, pos}
use lib.ListN.{length, get_or}
use Rattle.shape.specs.Answer.{refused, refuse_if}
use Rattle.shape.specs.Shape.{Shape, Values, all_below, tags, fits, encoded}
use Rattle.shape.proofs.Fields.{and_left, and_right}
use Rattle.protocol_param.specs.Value.{union, value_values, value_of_tag}
use Rattle.protocol_param.specs.GetSetRequest.{name_only, request}
use Rattle.protocol_param.specs.GetSetResponse.{min_then, max_then, default_then, response, response_values}
use Rattle.protocol_param.specs.inside.Value.{tag_of}
use Rattle.protocol_param.specs.declared.value.Value.{Value}
use Rattle.protocol_param.specs.declared.value.Value.TheVariants.{Empty, Integer, Real, Boolean, Text, Unknown}
use Rattle.protocol_param.proofs.WriteFacts.{request-tags, response-tags}
use Rattle.row.specs.Row.{count_at, number_at}
use Rattle.message_fields.specs.GetSet.{value_from}
use Rattle.message_fields.specs.inside.Value.{too_large, any_too_large, all_known}

and_no : (a : Bool) → a && false ≡ false
and_no true = refl
and_no false = refl

refused-17 : (d : Shape) (v : Values d) (room : ℕ) → tags d v ≡ true → fits d v ≡ false → encoded d v room ≡ refused 17
unfolding encoded refuse_if
refused-17 d v room t f = rw (t, f)

refused-27 : (d : Shape) (v : Values d) (room : ℕ) → tags d v ≡ false → encoded d v room ≡ refused 27
unfolding encoded refuse_if
refused-27 d v room t = rw t

-- ── one value, and what follows it ──

module _ (n : ℕ) (d : Shape) (rest : Values d) (text : List ℕ) where
  no-rest : (v : Value) → fits d rest ≡ false → fits (union n d) (value_values v text n d rest) ≡ false
  unfolding fits
  no-rest Empty e = e
  no-rest (Integer z) e = e
  no-rest (Real x) e = rw e (and_no (ltb x (2 ^ 32)))
  no-rest (Boolean z) e = e
  no-rest Text e = rw (e, and_no (all_below 256 text)) (and_no (leb (length text) 128))
  no-rest Unknown e = e

  no-real : (x : ℕ) → 2 ^ 32 ≤ x → fits (union n d) (value_values (Real x) text n d rest) ≡ false
  unfolding fits
  no-real x h = rw (le-ltb x (2 ^ 32) h)

-- a tag is below the number of cases as it is given
tag_is : (z b : ℤ) (x t k : ℕ) → k ≤ 5 → ltb (tag_of (value_of_tag (pos t) z x b)) k ≡ ltb t k
tag_is z b x zero k h = refl
tag_is z b x (suc zero) k h = refl
tag_is z b x (suc (suc zero)) k h = refl
tag_is z b x (suc (suc (suc zero))) k h = refl
tag_is z b x (suc (suc (suc (suc zero)))) k h = refl
tag_is z b x (suc (suc (suc (suc (suc t))))) k h = le-ltb 5 k h ∙ sym (le-ltb (suc (suc (suc (suc (suc t))))) k (omega arith))

module _ (ws : List ℕ) (i : ℕ) where
  -- a tag above what can be given is that of no case either
  tag-from : (k : ℕ) → k ≤ 5 → ltb (tag_of (value_from ws i)) k ≡ ltb (get_or ws i 0) k
  tag-from k h =
      let n = get_or ws i 0 in
      tag_is (number_at ws (i + 1)) (count_at ws (i + 1)) (get_or ws (i + 1) 0) (min n (2 ^ 63 - 1)) k h ∙ cut (ltb n k) refl where
        cut : (b : Bool) → ltb (get_or ws i 0) k ≡ b → ltb (min (get_or ws i 0) (2 ^ 63 - 1)) k ≡ ltb (get_or ws i 0) k
        cut true e = lt-ltb _ k (omega (arith, ltb-true (get_or ws i 0) k e)) ∙ sym e
        cut false e = le-ltb _ k (omega (arith, ltb-false (get_or ws i 0) k e)) ∙ sym e

  too-large : too_large ws i ≡ true → (get_or ws i 0 ≡ 2) × (2 ^ 32 ≤ get_or ws (i + 1) 0)
  unfolding too_large
  too-large e =
      let b = ltb (2 ^ 32 - 1) (get_or ws (i + 1) 0) in
      (eqb-true (get_or ws i 0) 2 (and_left (eqb (get_or ws i 0) 2) b e), omega (arith, ltb-true (2 ^ 32 - 1) (get_or ws (i + 1) 0) (and_right (eqb (get_or ws i 0) 2) b e)))

  is_real : too_large ws i ≡ true → value_from ws i ≡ Real (get_or ws (i + 1) 0)
  is_real e = rw (too-large e).0

  unfit : (n : ℕ) (d : Shape) (rest : Values d) (text : List ℕ) → too_large ws i ≡ true → fits (union n d) (value_values (value_from ws i) text n d rest) ≡ false
  unfit n d rest text e = ap (λ (v : Value). fits (union n d) (value_values v text n d rest)) (is_real e) ∙ no-real n d rest text _ (too-large e).1

-- ── the request ──

pub request-17 : (ws text name : List ℕ) (z : ℤ) (room : ℕ) → too_large ws 1 ≡ true → encoded request (z, value_values (value_from ws 1) text 5 name_only name) room ≡ refused 17
unfolding fits
request-17 ws text name z room e =
    refused-17 request (z, value_values (value_from ws 1) text 5 name_only name) room
    (request-tags z (value_from ws 1) text name ∙ ap (λ (v : Value). ltb (tag_of v) 5) (is_real ws 1 e)) (unfit ws 1 5 name_only name text e)

-- ── the response ──

module _ (ws text other name : List ℕ) (room : ℕ) where
  abbrev told : Values response
  told = response_values (value_from ws 0) text (value_from ws 4) other (value_from ws 8) (value_from ws 10) name

  known : tags response told ≡ all_known ws
  known =
      response-tags (value_from ws 0) text (value_from ws 4) other (value_from ws 8) (value_from ws 10) name
      ∙ rw (tag-from ws 0 5 (lit≤ tt), tag-from ws 4 5 (lit≤ tt), tag-from ws 8 3 (lit≤ tt), tag-from ws 10 3 (lit≤ tt))

  response-unfit : (a b c d : Bool) → too_large ws 0 ≡ a → too_large ws 4 ≡ b → too_large ws 8 ≡ c → too_large ws 10 ≡ d → (a || b) || (c || d) ≡ true → fits response told ≡ false
  unfolding fits
  response-unfit true b c d ea eb ec ed h = unfit ws 0 5 default_then _ text ea
  response-unfit false true c d ea eb ec ed h = no-rest 5 default_then _ text (value_from ws 0) (unfit ws 4 5 max_then _ other eb)
  response-unfit false false true d ea eb ec ed h =
      no-rest 5 default_then _ text (value_from ws 0) (no-rest 5 max_then _ other (value_from ws 4) (unfit ws 8 3 min_then _ [] ec))
  response-unfit false false false true ea eb ec ed h =
      no-rest 5 default_then _ text (value_from ws 0)
      (no-rest 5 max_then _ other (value_from ws 4) (no-rest 3 min_then _ [] (value_from ws 8) (unfit ws 10 3 name_only name [] ed)))
  response-unfit false false false false ea eb ec ed h = absurd (let z : ◌≡◌ {A = ℕ} 0 1 = cc in omega arith)

  pub response-17 : any_too_large ws ≡ true → all_known ws ≡ true → encoded response told room ≡ refused 17
  response-17 e k = refused-17 response told room (known ∙ k) (response-unfit _ _ _ _ refl refl refl refl e)

  pub response-27 : all_known ws ≡ false → encoded response told room ≡ refused 27
  response-27 k = refused-27 response told room (known ∙ k)

-- none of the four is too large
abbrev pub Small : List ℕ → Type 0
Small ws = ((too_large ws 0 ≡ false) × (too_large ws 4 ≡ false)) × ((too_large ws 8 ≡ false) × (too_large ws 10 ≡ false))

pub none : (ws : List ℕ) → any_too_large ws ≡ false → Small ws
none ws e = by-case (too_large ws 0) (too_large ws 4) (too_large ws 8) (too_large ws 10) e where
  by-case : (a b c d : Bool) → (a || b) || (c || d) ≡ false → ((a ≡ false) × (b ≡ false)) × ((c ≡ false) × (d ≡ false))
  by-case true b c d h = absurd (let z : ◌≡◌ {A = ℕ} 0 1 = cc in omega arith)
  by-case false true c d h = absurd (let z : ◌≡◌ {A = ℕ} 0 1 = cc in omega arith)
  by-case false false true d h = absurd (let z : ◌≡◌ {A = ℕ} 0 1 = cc in omega arith)
  by-case false false false true h = absurd (let z : ◌≡◌ {A = ℕ} 0 1 = cc in omega arith)
  by-case false false false false h = ((refl, refl), (refl, refl))
