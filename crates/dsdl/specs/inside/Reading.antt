-- RULES 17.8: what is read so far of a text, as the code keeps it.
use Rattle.std.specs.Prelude.{◌≡◌, Bool, true, cond, ◌||◌, List, ◌∷◌, ℕ, suc, ◌*◌, ◌≤◌, ◌<◌, ltb, length}
use Rattle.std.proofs.Math.Option.{Option, none, some}
use Rattle.dsdl_text.specs.declared.word.Word.{Word}
use Rattle.dsdl_text.specs.inside.Words.{part}
use Rattle.dsdl_line.specs.Line.{Line, line_of}
use Rattle.dsdl_line.specs.inside.Places.{word_of}
use Rattle.dsdl.specs.declared.fault.Reading.{Reading}
use Rattle.dsdl.specs.Definition.{text_max, Part, is_among, or_fault, fault_from}
use Rattle.dsdl.specs.inside.Names.{names_at, Kept}

abbrev pub part_of : List ℕ → List ℕ → Reading → Part
part_of t seen s =
    record { union = s.directive; attributes = s.attributes; fields = s.fields; names = names_at t seen s.names }

-- ── the line at fault, n being the number of the next line ──

abbrev pub goes_on : List ℕ → List ℕ → Reading → ℕ → List Line → ℕ
goes_on t seen s n ls = or_fault s.fault (fault_from s.response n (part_of t seen s) ls)

-- after line n, no marker
abbrev pub after_line : Bool → ℕ → Option Part → List Line → ℕ
after_line response n none ls = n
after_line response n (some q) ls = fault_from response (suc n) q ls

-- an attribute with a name, and so many fields in all
abbrev pub with_named : ℕ → List ℕ → Part → Option Part
with_named fields x p =
    cond (is_among x p.names) none
    (some (record { union = p.union; attributes = suc p.attributes; fields = fields; names = x ∷ p.names }))

-- the same of the name w; and with line n as the text has it from `at` to `end`
abbrev pub after_name : List ℕ → List ℕ → Reading → ℕ → ℕ → Word → List Line → ℕ
after_name t seen s n fields w = after_line s.response n (with_named fields (word_of t w) (part_of t seen s))

abbrev pub after_text : List ℕ → List ℕ → Reading → ℕ → ℕ → ℕ → List Line → ℕ
after_text t seen s n at end ls = fault_from s.response n (part_of t seen s) (line_of (part t at end) ∷ ls)

-- ── after line n ──

abbrev pub faulty : Reading → ℕ → Reading
faulty s n =
    record {
      fault = n;
      response = s.response;
      directive = s.directive;
      attributes = s.attributes;
      fields = s.fields;
      names = s.names;
    }

abbrev pub end_fault : Reading → ℕ
end_fault s = cond (ltb s.fields 2) s.directive 0

-- a response begins
abbrev pub parted : Reading → Reading
parted s = record { fault = end_fault s; response = true; directive = 0; attributes = 0; fields = 0; names = 0 }

abbrev pub after_marker : Reading → ℕ → Reading
after_marker s n = cond s.response (faulty s n) (parted s)

abbrev pub directed : Reading → ℕ → Reading
directed s n =
    record {
      fault = 0;
      response = s.response;
      directive = n;
      attributes = s.attributes;
      fields = s.fields;
      names = s.names;
    }

abbrev pub after_union : Reading → ℕ → Reading
after_union s n = cond (ltb 0 s.directive || ltb 0 s.attributes) (faulty s n) (directed s n)

abbrev pub after_padding : Reading → Reading
after_padding s =
    record {
      fault = 0;
      response = s.response;
      directive = s.directive;
      attributes = suc s.attributes;
      fields = suc s.fields;
      names = s.names;
    }

-- before line n
pub record Bounded (n : ℕ) (s : Reading) : Type 0 where
  pub fault : s.fault < n
  pub directive : s.directive < n
  pub attributes : s.attributes < n
  pub fields : s.fields < n

-- after line n: what the lines behind it come to is `next`, and `most` bounds twice the number of names
pub record Step (t seen marks : List ℕ) (s : Reading) (n most : ℕ) (next : List Line → ℕ) : Type 0 where
  pub goes-on : (ls : List Line) → goes_on t seen s (suc n) ls ≡ next ls
  pub bounded : Bounded (suc n) s
  pub room : Kept t seen marks s.names
  pub few : 2 * s.names ≤ most

-- where line n begins, at `at`, and no line is at fault so far
pub record Ready (t seen marks : List ℕ) (at n : ℕ) (s : Reading) : Type 0 where
  pub right : s.fault ≡ 0
  pub bounded : Bounded n s
  pub room : Kept t seen marks s.names
  pub few : 2 * s.names ≤ at
  pub numbered : n ≤ suc at
  pub short : length t ≤ text_max
