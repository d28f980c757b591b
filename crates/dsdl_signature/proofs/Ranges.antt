-- Every answer is in range: a line at fault is one of the text's, and a definition one of those given.
use mathlib.Core.Path.{◌≡◌, refl, ap}
use mathlib.Core.Bool.{Bool, true, false, not, cond, ◌&&◌, ◌||◌}
use mathlib.Core.List.{List, [], ◌∷◌}
use mathlib.Core.Option.{Option, none, some}
use Prim.Native.Nat.{ℕ, zero, suc, ◌+◌, ◌-◌, ◌/◌, ◌≤◌, ◌<◌}
use native.Mathlib.Omega.{arith}
use borrow.Author.Tests.{ltb-false}
use lib.Dec.{ltb, eqb}
use Rattle.std.proofs.lemmas.Bool.{or_parts}
use lib.ListN.{length, take, drop, length-map}
use Rattle.dsdl_text.specs.Class.{is_in}
use Rattle.dsdl_text.specs.declared.class.Class.TheVariants.{Inline}
use Rattle.dsdl_text.specs.Lines.{on_first, lines_after, lines}
use Rattle.dsdl_text.specs.Names.{is_full_name}
use Rattle.dsdl_line.specs.Line.{Line, line_of}
use Rattle.dsdl_line.specs.Line.Line.{nothing, marker, union, padding, field, constant, wrong}
use Rattle.dsdl.specs.Definition.{text_max, Part, empty_part, is_among, with_line, fault_at_end, or_fault, is_marker, lines_of, fault_in, Verdict, good, faulty, verdict}
use Rattle.dsdl.specs.Definition as dsdl
use Rattle.dsdl_given.specs.Given.{Definition, definitions, definition_max, name_twice, too_long, lengths_in, oversized, fault_from}
use Rattle.dsdl_nesting.specs.Nesting.{all_given, all_within}
use Rattle.std.specs.Prelude.{Ok, Err}
use Rattle.dsdl_signature.specs.declared.answer.Refusal.TheVariants.{Oversized, Missing, Deep, Short}
use Rattle.dsdl_signature.specs.Call.{Answer, forms, record_size, ordered, or_faulty, answer_of, result_of, signatures}
use Rattle.dsdl_signature.specs.Laws.{Range, AnswersInRange}

-- ── a line at fault ──

module _ (n : ℕ) where
  same-union : (p q : Part) → some p ≡ some q → p.union ≤ n → q.union ≤ n
  same-union p q e h = let f : p.union ≡ q.union = cc in omega arith

  picked : (b : Bool) (p q : Part) → cond b none (some p) ≡ some q → p.union ≤ n → q.union ≤ n
  picked true p q e h = cc
  picked false p q e h = same-union p q e h

  nowhere : (q : Part) → none ≡ some q → q.union ≤ n
  nowhere q e = cc

  -- the line of a union directive is one that was read
  after_line : (l : Line) (p q : Part) → with_line n l p ≡ some q → p.union ≤ n → q.union ≤ n
  after_line nothing p q e h = same-union p q e h
  after_line marker p q e h = nowhere q e
  after_line union p q e h = picked (ltb 0 p.union || ltb 0 p.attributes) _ q e (omega arith)
  after_line (padding w) p q e h = same-union _ q e h
  after_line (field c w x) p q e h = picked (is_among x p.names) _ q e h
  after_line (constant x) p q e h = picked (is_among x p.names) _ q e h
  after_line wrong p q e h = nowhere q e

end_lt : (b : Bool) (u n : ℕ) → 0 < n → u < n → cond b u 0 < n
end_lt true u n z h = h
end_lt false u n z h = z

or_lt : (b : Bool) (x y n : ℕ) → x < n → y < n → cond b x y < n
or_lt true x y n h k = h
or_lt false x y n h k = k

step-lt : (b response : Bool) (o : Option Part) (n : ℕ) (p : Part) (ls : List Line) → 0 < n → p.union < n
    → dsdl.fault_from true (suc n) empty_part ls < suc n + length ls
    → ((q : Part) → o ≡ some q → dsdl.fault_from response (suc n) q ls < suc n + length ls)
    → elim b [
      | true ↦ cond response n (or_fault (fault_at_end p) (dsdl.fault_from true (suc n) empty_part ls))
      | false ↦ elim o [ none ↦ n | some q ↦ dsdl.fault_from response (suc n) q ls ]
    ] < n + suc (length ls)
step-lt true true o n p ls z h a k = omega arith
step-lt true false o n p ls z h a k =
    let e : fault_at_end p < n = end_lt (ltb p.fields 2) p.union n z h in
    or_lt (ltb 0 (fault_at_end p)) (fault_at_end p) (dsdl.fault_from true (suc n) empty_part ls) (n + suc (length ls)) (omega arith) (omega arith)
step-lt false response none n p ls z h a k = omega arith
step-lt false response (some q) n p ls z h a k = omega (arith, k q refl)

fault-lt : (ls : List Line) (response : Bool) (n : ℕ) (p : Part) → 0 < n → p.union < n → dsdl.fault_from response n p ls < n + length ls
unfolding dsdl.fault_from
fault-lt [] response n p z h = let e = end_lt (ltb p.fields 2) p.union n z h in omega arith
fault-lt (l ∷ ls) response n p z h =
    step-lt (is_marker l) response (with_line n l p) n p ls z h (fault-lt ls true (suc n) empty_part (omega arith) (omega arith))
    (λ q e. fault-lt ls response (suc n) q (omega arith) (omega (arith, after_line n l p q e (omega arith))))

on-first : (c : ℕ) (ls : List (List ℕ)) → length (on_first c ls) ≡ length ls
on-first c [] = refl
on-first c (l ∷ ls) = refl

front : (a b : Bool) (c n : ℕ) (ls : List (List ℕ)) → length ls ≤ n → length (cond a ls (cond b (on_first c ls) ([] ∷ ls))) ≤ suc n
front true b c n ls h = omega arith
front false true c n ls h = omega (arith, on-first c ls)
front false false c n ls h = omega arith

-- at most one line more than characters
count : (b : Bool) (t : List ℕ) → length (lines_after b t) ≤ suc (length t)
unfolding lines_after
count b [] = omega arith
count b (c ∷ cs) = front (b && eqb c 10) (is_in Inline c) c (suc (length cs)) (lines_after (eqb c 13) cs) (count (eqb c 13) cs)

fault-le : (t : List ℕ) → fault_in t ≤ suc (length t)
fault-le t = omega (arith, fault-lt (lines_of t) false 1 empty_part (omega arith) (omega arith), length-map (lines t) line_of, count false t)

judged-le : (a b : Bool) (n line : ℕ) → faulty line ≡ cond a (cond b (faulty n) good) (faulty 0) → line ≤ n
judged-le true true n line e = let f : line ≡ n = cc in omega arith
judged-le true false n line e = cc
judged-le false b n line e = let f : line ≡ 0 = cc in omega arith

verdict-le : (name text : List ℕ) (line : ℕ) → faulty line ≡ verdict name text → line ≤ suc (length text)
unfolding verdict
verdict-le name text line e = omega (arith, judged-le (is_full_name name) (ltb 0 (fault_in text)) (fault_in text) line e, fault-le text)

-- ── a definition at fault ──

abbrev AllShort : List Definition → Type 0
AllShort [] = Unit {0}
AllShort (d ∷ ds) = (length d.text ≤ text_max) × AllShort ds

cut-le : (n : ℕ) (l : List ℕ) → length (take n l) ≤ n
cut-le zero l = omega arith
cut-le (suc n) [] = omega arith
cut-le (suc n) (x ∷ xs) = omega (arith, cut-le n xs)

all_short : (ls source : List ℕ) (left : ℕ) → too_long left ls ≡ false → AllShort (definitions source ls)
unfolding too_long definitions
all_short [] source left e = tt
all_short (n ∷ []) source left e = tt
all_short (n ∷ (t ∷ ls)) source left e =
    let p = or_parts (ltb text_max t) (ltb left (n + t) || too_long (left - (n + t)) ls) e in
    let q = or_parts (ltb left (n + t)) (too_long (left - (n + t)) ls) p.1 in
    (omega (arith, ltb-false text_max t p.0, cut-le t (drop n source)), all_short ls (drop (n + t) source) (left - (n + t)) q.1)

pub record Within (i n line : ℕ) : Type 0 where
  pub definition : i < n
  pub short : line ≤ suc text_max

fault-within : (ds : List Definition) (k i line : ℕ) → AllShort ds → fault_from k ds ≡ some (i, line) → Within i (k + length ds) line
unfolding fault_from
fault-within [] k i line s e = cc
fault-within (d ∷ ds) k i line s e = go (λ f. fault-within ds (suc k) i line s.1 f) (verdict d.name d.text) refl e where
  go : (fault_from (suc k) ds ≡ some (i, line) → Within i (suc k + length ds) line) → (v : Verdict) → v ≡ verdict d.name d.text
      → ◌≡◌ {A = Option (ℕ × ℕ)} (elim v [ good ↦ fault_from (suc k) ds | faulty l ↦ some (k, l) ]) (some (i, line)) → Within i (k + suc (length ds)) line
  go later good q f = let w = later f in record { definition = omega (arith, w.definition); short = w.short }
  go later (faulty l) q f =
      let p : ◌≡◌ {A = ℕ × ℕ} (k, l) (i, line) = cc in
      let a : k ≡ i = ap (λ (x : ℕ × ℕ). x.0) p in
      let b : l ≡ line = ap (λ (x : ℕ × ℕ). x.1) p in
      record { definition = omega arith; short = omega (arith, verdict-le d.name d.text l q, s.0) }

-- ── an answer ──

kept : (a : Answer) (ds : List Definition) (out records : List ℕ) → (result_of a ds out records).answer ≡ a
kept (Ok done) ds out records = refl
kept (Err e) ds out records = refl

small : (g w s : Bool) → Range (cond (not g) (Err Missing) (cond (not w) (Err Deep) (cond s (Err Short) (Ok tt))))
small true true true = record { number = omega arith; definition = omega arith; line = omega arith }
small true true false = record { number = omega arith; definition = omega arith; line = omega arith }
small true false s = record { number = omega arith; definition = omega arith; line = omega arith }
small false w s = record { number = omega arith; definition = omega arith; line = omega arith }

faulty-range : (f : Option (ℕ × ℕ)) (a : Answer) → ((i line : ℕ) → f ≡ some (i, line) → Within i (suc definition_max) line) → Range a → Range (or_faulty f a)
faulty-range none a h r = r
faulty-range (some x) a h r = let w = h x.0 x.1 refl in record { number = omega arith; definition = omega (arith, w.definition); line = w.short }

module _ (source ls : List ℕ) (room places : ℕ) where
  abbrev ds : List Definition
  ds = definitions source ls

  fine : oversized source ls ≡ false → (i line : ℕ) → fault_from 1 ds ≡ some (i, line) → Within i (suc definition_max) line
  unfolding oversized
  fine q i line e =
      let p = or_parts (ltb definition_max (length ds)) (too_long (length source) ls || name_twice ds) q in
      let m = ltb-false definition_max (length ds) p.0 in
      let t = or_parts (too_long (length source) ls) (name_twice ds) p.1 in
      let w = fault-within ds 1 i line (all_short ls source (length source) t.0) e in
      record { definition = omega (arith, w.definition); short = w.short }

  by_size : (b : Bool) → oversized source ls ≡ b → Range (cond b (Err Oversized) (or_faulty (fault_from 1 ds) (ordered ds room places)))
  by_size true q = record { number = omega arith; definition = omega arith; line = omega arith }
  by_size false q =
      faulty-range (fault_from 1 ds) (ordered ds room places) (fine q) (small (all_given ds) (all_within ds) (ltb room (length (forms ds)) || ltb places (length ds)))

pub answers-in-range : AnswersInRange
unfolding signatures
answers-in-range source lengths out records =
    let ls = lengths_in lengths in
    let places = length records / record_size in
    rw (kept (answer_of source ls (length out) places) (definitions source ls) out records) (by_size source ls (length out) places (oversized source ls) refl)
