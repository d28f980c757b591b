-- Lines one by one: what is read after each.
use mathlib.Core.Path.{◌≡◌, refl, sym, ap, subst, ◌∙◌}
use mathlib.Core.Bool.{Bool, true, false, cond, ◌||◌}
use mathlib.Core.List.{List, [], ◌∷◌, map}
use mathlib.Core.Option.{Option, none, some}
use Prim.Native.Nat.{ℕ, zero, suc, ◌-◌, ◌*◌, ◌≤◌, ◌<◌}
use native.Mathlib.Omega.{arith}
use borrow.Author.Tests.{lt-ltb, ltb-true, ltb-false}
use lib.Dec.{ltb}
use lib.ListN.{length, set, take, drop}
use Rattle.dsdl_text.proofs.Choices.{first, next}
use Rattle.dsdl_text.specs.declared.word.Word.{Word}
use Rattle.dsdl_text.specs.Class.{run}
use Rattle.dsdl_text.specs.Lines.{lines}
use Rattle.dsdl_text.specs.inside.Lines.{end_of, after_end}
use Rattle.dsdl_text.specs.inside.Words.{part}
use Rattle.dsdl_line.specs.declared.shape.Cast.{Cast}
use Rattle.dsdl_line.specs.declared.shape.Places.{Places}
use Rattle.dsdl_line.specs.declared.shape.Places.TheVariants.{Field, Constant}
use Rattle.dsdl_line.specs.Line.{Shape, Line, judged, shape_of, line_of}
use Rattle.dsdl_line.specs.Line.Shape.{nothing as no_words}
use Rattle.dsdl_line.specs.Line.Line.{nothing, marker, union, padding, field, constant, wrong}
use Rattle.dsdl_line.specs.inside.Places.{word_of, meaning}
use Rattle.dsdl.specs.declared.fault.Reading.{Reading}
use Rattle.dsdl.specs.Definition.{Part, is_among, or_fault, is_marker, with_line, fault_from, fault_in}
use Rattle.dsdl.specs.inside.Names.{names_max, word_at, names_at, mark_of, Kept}
use Rattle.dsdl.specs.inside.Reading.{
  part_of,
  goes_on,
  after_line,
  with_named,
  after_name,
  after_text,
  faulty,
  end_fault,
  parted,
  after_marker,
  directed,
  after_union,
  after_padding,
  Bounded,
  Ready,
  Step,
}
use Rattle.dsdl.proofs.NamePlaces.{stored, none_kept, one_kept}
use Rattle.dsdl.proofs.Services.{cut, cut-last}

-- ── a line that is at fault, and one that is not ──

module _ (t seen marks : List ℕ) (s : Reading) (room : Kept t seen marks s.names) (n : ℕ) (next : List Line → ℕ) where
  pub wrong-line : Bounded n s → ((ls : List Line) → n ≡ next ls) → Step t seen marks (faulty s n) n (2 * s.names) next
  wrong-line b e =
      let d = b.directive in
      let a = b.attributes in
      let f = b.fields in
      let q : ltb 0 n ≡ true = lt-ltb 0 n (omega (arith, b.fault)) in
      record {
        goes-on = λ ls. ap (λ (x : Bool). cond x n (fault_from s.response (suc n) (part_of t seen s) ls)) q ∙ e ls;
        bounded = record { fault = omega arith; directive = omega arith; attributes = omega arith; fields = omega arith };
        room = room;
        few = omega arith;
      }

  pub right-line : s.fault ≡ 0 → Bounded (suc n) s → ((ls : List Line) → fault_from s.response (suc n) (part_of t seen s) ls ≡ next ls)
      → Step t seen marks s n (2 * s.names) next
  right-line z b e =
      record {
        goes-on = λ ls. ap (λ (x : ℕ). or_fault x (fault_from s.response (suc n) (part_of t seen s) ls)) z ∙ e ls;
        bounded = b;
        room = room;
        few = omega arith;
      }

-- with a larger bound on the names
pub fewer : {t seen marks : List ℕ} {s : Reading} {n k m : ℕ} {next : List Line → ℕ} → Step t seen marks s n k next → k ≤ m → Step t seen marks s n m next
fewer r h = let f = r.few in record { goes-on = r.goes-on; bounded = r.bounded; room = r.room; few = omega arith }

marked-again : (n : ℕ) (p : Part) (ls : List Line) (r : Bool) → r ≡ true → n ≡ fault_from r n p (marker ∷ ls)
unfolding fault_from
marked-again n p ls r e = rw e

marked-first : (t seen : List ℕ) (s : Reading) (n : ℕ) (ls : List Line) (r : Bool) → r ≡ false
    → goes_on t seen (parted s) (suc n) ls ≡ fault_from r n (part_of t seen s) (marker ∷ ls)
unfolding fault_from names_at
marked-first t seen s n ls r e = rw e

module _ (t seen marks : List ℕ) (s : Reading) (room : Kept t seen marks s.names) (n : ℕ) (b : Bounded n s) where
  more : Bounded (suc n) s
  more =
      let i = b.fault in
      let d = b.directive in
      let a = b.attributes in
      let f = b.fields in
      record { fault = omega arith; directive = omega arith; attributes = omega arith; fields = omega arith }

  pub after_nothing : s.fault ≡ 0 → Step t seen marks s n (2 * s.names) (after_line s.response n (some (part_of t seen s)))
  after_nothing z = right-line t seen marks s room n (after_line s.response n (some (part_of t seen s))) z more (λ ls. refl)

  pub after-marker : Step t seen marks (after_marker s n) n (2 * s.names) (λ ls. fault_from s.response n (part_of t seen s) (marker ∷ ls))
  after-marker = go s.response refl where
    Goal : Reading → Type 0
    Goal r = Step t seen marks r n (2 * s.names) (λ ls. fault_from s.response n (part_of t seen s) (marker ∷ ls))

    go : (r : Bool) → s.response ≡ r → Goal (after_marker s n)
    go true e =
        let q : faulty s n ≡ after_marker s n = first s.response (faulty s n) (parted s) e in
        subst Goal q (wrong-line t seen marks s room n (λ ls. fault_from s.response n (part_of t seen s) (marker ∷ ls)) b (λ ls. marked-again n (part_of t seen s) ls s.response e))
    go false e =
        let q : parted s ≡ after_marker s n = next s.response (faulty s n) (parted s) (parted s) e refl in
        let m : Goal (parted s) =
        record {
          goes-on = λ ls. marked-first t seen s n ls s.response e;
          bounded = record { fault = ended-bound (ltb s.fields 2); directive = omega arith; attributes = omega arith; fields = omega arith };
          room = none_kept t seen marks room.places room.marked;
          few = omega arith;
        } in
        subst Goal q m where
          ended-bound : (x : Bool) → cond x s.directive 0 < suc n
          ended-bound true = omega (arith, b.directive)
          ended-bound false = omega arith

  pub after-union : s.fault ≡ 0 → Step t seen marks (after_union s n) n (2 * s.names) (after_line s.response n (with_line n union (part_of t seen s)))
  after-union z = go (ltb 0 s.directive || ltb 0 s.attributes) refl where
    Goal : Reading → Type 0
    Goal r = Step t seen marks r n (2 * s.names) (after_line s.response n (with_line n union (part_of t seen s)))

    go : (r : Bool) → (ltb 0 s.directive || ltb 0 s.attributes) ≡ r → Goal (after_union s n)
    go true e =
        let q : faulty s n ≡ after_union s n = first _ (faulty s n) (directed s n) e in
        subst Goal q (wrong-line t seen marks s room n (after_line s.response n (with_line n union (part_of t seen s))) b (λ ls. rw e))
    go false e =
        let q : directed s n ≡ after_union s n = next _ (faulty s n) (directed s n) (directed s n) e refl in
        subst Goal q (right-line t seen marks (directed s n) room n (after_line s.response n (with_line n union (part_of t seen s))) refl
        (record { fault = omega arith; directive = omega arith; attributes = omega (arith, b.attributes); fields = omega (arith, b.fields) }) (λ ls. rw e))

  pub after-padding : (w : List ℕ) → Step t seen marks (after_padding s) n (2 * s.names) (after_line s.response n (with_line n (padding w) (part_of t seen s)))
  after-padding w =
      let d = b.directive in
      let a = b.attributes in
      let f = b.fields in
      right-line t seen marks (after_padding s) room n (after_line s.response n (with_line n (padding w) (part_of t seen s))) refl
      (record { fault = omega arith; directive = omega arith; attributes = omega arith; fields = omega arith }) (λ ls. refl)

-- ── names ──

-- a name more, and so many fields in all
abbrev with_name : Reading → ℕ → Reading
with_name s fields =
    record {
      fault = 0;
      response = s.response;
      directive = s.directive;
      attributes = suc s.attributes;
      fields = fields;
      names = suc s.names;
    }

module _ (t seen marks : List ℕ) (s : Reading) (room : Kept t seen marks s.names) (n : ℕ) (b : Bounded n s) (fields : ℕ) (w : Word) where
  pub name-again : is_among (word_of t w) (names_at t seen s.names) ≡ true → Step t seen marks (faulty s n) n (2 * suc s.names) (after_name t seen s n fields w)
  name-again e = fewer (wrong-line t seen marks s room n (after_name t seen s n fields w) b (λ ls. rw e)) (omega arith)

  pub name-first : is_among (word_of t w) (names_at t seen s.names) ≡ false → fields ≤ n → (p m : ℕ) → s.names < names_max → word_at p ≡ w → m ≡ mark_of (word_of t w) → m < names_max
      → Step t (set seen s.names p) (set marks m 1) (with_name s fields) n (2 * suc s.names) (after_name t seen s n fields w)
  name-first e f p m h q k g =
      let d = b.directive in
      let a = b.attributes in
      right-line t (set seen s.names p) (set marks m 1) (with_name s fields) (one_kept t seen marks w s.names p m room h q k g) n (after_name t seen s n fields w) refl
      (record { fault = omega arith; directive = omega arith; attributes = omega arith; fields = omega arith })
      (λ ls. ap (λ (ns : List (List ℕ)). fault_from s.response (suc n) (part-with ns) ls) (stored t seen w s.names p (omega arith) q) ∙ picked ls) where
        part-with : List (List ℕ) → Part
        part-with ns = record { union = s.directive; attributes = suc s.attributes; fields = fields; names = ns }

        picked : (ls : List Line) → fault_from s.response (suc n) (part-with (word_of t w ∷ names_at t seen s.names)) ls ≡ after_name t seen s n fields w ls
        picked ls = rw e

-- ── a line of the text ──

empty : shape_of [] ≡ no_words
unfolding shape_of run
empty = refl

not-empty : (t : List ℕ) (at end : ℕ) (m : Shape) → m ≡ shape_of (part t at end) → (m ≡ no_words → ⊥) → at < end
not-empty t at end m e h = go (end - at) refl where
  go : (k : ℕ) → end - at ≡ k → at < end
  go zero q = absurd (h (e ∙ (ap (λ (k : ℕ). shape_of (take k (drop at t))) q ∙ empty)))
  go (suc k) q = omega arith

-- the line of an attribute has a character
pub long-field : (t : List ℕ) (at end : ℕ) (q : Places) (c : Cast) (w x : Word) → meaning (part t at end) q ≡ shape_of (part t at end) → q ≡ Field c w x → at < end
long-field t at end q c w x e f =
    not-empty t at end (meaning (part t at end) q) e (λ z. let f0 : ◌≡◌ {A = ℕ} 0 1 = cc in omega arith)

pub long-constant : (t : List ℕ) (at end : ℕ) (q : Places) (w x i : Word) → meaning (part t at end) q ≡ shape_of (part t at end) → q ≡ Constant w x i → at < end
long-constant t at end q w x i e f =
    not-empty t at end (meaning (part t at end) q) e (λ z. let f0 : ◌≡◌ {A = ℕ} 0 1 = cc in omega arith)

-- no marker
after-other : (response : Bool) (n : ℕ) (p : Part) (ls : List Line) (l : Line) → is_marker l ≡ false
    → after_line response n (with_line n l p) ls ≡ fault_from response n p (l ∷ ls)
unfolding fault_from
after-other response n p ls l e = rw (e, fault_from) (go (with_line n l p)) where
  go : (o : Option Part) → after_line response n o ls ≡ elim o [ none ↦ n | some q ↦ fault_from response (suc n) q ls ]
  go none = refl
  go (some q) = refl

-- what a line is, by the places that are read
pub read-line : (l : List ℕ) (q p : Places) → meaning l q ≡ shape_of l → q ≡ p → judged (meaning l p) ≡ line_of l
read-line l q p e f = ap (λ (r : Places). judged (meaning l r)) (sym f) ∙ ap judged e

module _ (t seen marks : List ℕ) (at end n : ℕ) (s : Reading) (ready : Ready t seen marks at n s) (h : at ≤ end) where
  abbrev Done : List ℕ → List ℕ → Reading → Type 0
  Done now now_marks r = Step t now now_marks r n (suc end) (after_text t seen s n at end)

  other : (now now_marks : List ℕ) (r : Reading) (k : ℕ) (l : Line) → is_marker l ≡ false → l ≡ line_of (part t at end)
      → Step t now now_marks r n k (after_line s.response n (with_line n l (part_of t seen s))) → k ≤ suc end → Done now now_marks r
  other now now_marks r k l m e o f =
      let g = o.few in
      record {
        goes-on =
            λ ls. o.goes-on ls ∙ (after-other s.response n (part_of t seen s) ls l m ∙ ap (λ (x : Line). fault_from s.response n (part_of t seen s) (x ∷ ls)) e);
        bounded = o.bounded;
        room = o.room;
        few = omega arith;
      }

  few : 2 * s.names ≤ suc end
  few = omega (arith, ready.few)

  pub nothing_read : nothing ≡ line_of (part t at end) → Done seen marks s
  nothing_read e = other seen marks s (2 * s.names) nothing refl e (after_nothing t seen marks s ready.room n ready.bounded ready.right) few

  pub marker-read : (r : Reading) → r ≡ after_marker s n → marker ≡ line_of (part t at end) → Done seen marks r
  marker-read r q e =
      let o = after-marker t seen marks s ready.room n ready.bounded in
      let g = o.few in
      subst (Done seen marks) (sym q)
      (record {
        goes-on = λ ls. o.goes-on ls ∙ ap (λ (x : Line). fault_from s.response n (part_of t seen s) (x ∷ ls)) e;
        bounded = o.bounded;
        room = o.room;
        few = omega (arith, few);
      })

  pub union-read : (r : Reading) → r ≡ after_union s n → union ≡ line_of (part t at end) → Done seen marks r
  union-read r q e =
      subst (Done seen marks) (sym q) (other seen marks (after_union s n) (2 * s.names) union refl e (after-union t seen marks s ready.room n ready.bounded ready.right) few)

  pub padding-read : (r : Reading) (w : List ℕ) → r ≡ after_padding s → padding w ≡ line_of (part t at end) → Done seen marks r
  padding-read r w q e =
      subst (Done seen marks) (sym q) (other seen marks (after_padding s) (2 * s.names) (padding w) refl e (after-padding t seen marks s ready.room n ready.bounded w) few)

  pub wrong-read : (r : Reading) → r ≡ faulty s n → wrong ≡ line_of (part t at end) → Done seen marks r
  wrong-read r q e =
      subst (Done seen marks) (sym q) (other seen marks (faulty s n) (2 * s.names) wrong refl e
      (wrong-line t seen marks s ready.room n (after_line s.response n none) ready.bounded (λ ls. refl)) few)

  module _ (now now_marks : List ℕ) (r : Reading) (fields : ℕ) (x y : List ℕ) (q : y ≡ x) (k : at < end)
      (o : Step t now now_marks r n (2 * suc s.names) (after_line s.response n (with_named fields y (part_of t seen s)))) where
    fits : 2 * suc s.names ≤ suc end
    fits = omega (arith, ready.few)

    renamed : Step t now now_marks r n (2 * suc s.names) (after_line s.response n (with_named fields x (part_of t seen s)))
    renamed = subst (λ (z : List ℕ). Step t now now_marks r n (2 * suc s.names) (after_line s.response n (with_named fields z (part_of t seen s)))) q o

    pub field-read : (c : Cast) (w : List ℕ) → fields ≡ suc s.fields → field c w x ≡ line_of (part t at end) → Done now now_marks r
    field-read c w f e =
        other now now_marks r (2 * suc s.names) (field c w x) refl e
        (subst (λ (m : ℕ). Step t now now_marks r n (2 * suc s.names) (after_line s.response n (with_named m x (part_of t seen s)))) f renamed) fits

    pub constant-read : fields ≡ s.fields → constant x ≡ line_of (part t at end) → Done now now_marks r
    constant-read f e =
        other now now_marks r (2 * suc s.names) (constant x) refl e
        (subst (λ (m : ℕ). Step t now now_marks r n (2 * suc s.names) (after_line s.response n (with_named m x (part_of t seen s)))) f renamed) fits

-- ── the whole text ──

abbrev pub from : List ℕ → List ℕ → Reading → ℕ → ℕ → ℕ
from t seen s n at = fault_from s.response n (part_of t seen s) (map line_of (lines (drop at t)))

pub begun : (t seen : List ℕ)
    → from t seen (record { fault = 0; response = false; directive = 0; attributes = 0; fields = 0; names = 0 }) 1 0 ≡ fault_in t
unfolding names_at
begun t seen = refl

-- the fault at a part's end is no later line
pub end-bound : (s : Reading) (n : ℕ) → s.directive < n → end_fault s < n
end-bound s n h = go (ltb s.fields 2) where
  go : (b : Bool) → cond b s.directive 0 < n
  go true = h
  go false = omega arith

module _ (t seen : List ℕ) (s : Reading) (n at end : ℕ) (e : end ≡ end_of t at) (whole : from t seen s n at ≡ fault_in t) (now now_marks : List ℕ) (r : Reading) (k : ℕ)
    (o : Step t now now_marks r n k (after_text t seen s n at end)) where
  by-line : (ls : List (List ℕ)) → lines (drop at t) ≡ part t at end ∷ ls → goes_on t now r (suc n) (map line_of ls) ≡ fault_in t
  by-line ls c =
      o.goes-on (map line_of ls) ∙ (ap (λ (x : List (List ℕ)). fault_from s.response n (part_of t seen s) (map line_of x)) (sym c) ∙ whole)

  at-fault : (ls : List Line) → 0 < r.fault → r.fault ≡ goes_on t now r (suc n) ls
  at-fault ls h = first (ltb 0 r.fault) r.fault _ (lt-ltb 0 r.fault h)

  pub found : 0 < r.fault → r.fault ≡ fault_in t
  found h = go (ltb end (length t)) refl where
    go : (b : Bool) → ltb end (length t) ≡ b → r.fault ≡ fault_in t
    go true q = at-fault _ h ∙ by-line _ (cut t at end e (ltb-true end (length t) q))
    go false q = at-fault _ h ∙ by-line _ (cut-last t at end e (ltb-false end (length t) q))

  module _ (z : r.fault ≡ 0) where
    pub next-line : end < length t → from t now r (suc n) (after_end t end) ≡ fault_in t
    next-line h =
        ap (λ (x : ℕ). or_fault x (from t now r (suc n) (after_end t end))) (sym z) ∙ by-line (lines (drop (after_end t end) t)) (cut t at end e h)

    pub last_line : length t ≤ end → end_fault r ≡ fault_in t
    unfolding fault_from
    last_line h = ap (λ (x : ℕ). or_fault x (end_fault r)) (sym z) ∙ by-line [] (cut-last t at end e h)
