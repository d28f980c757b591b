-- Frames joined one by one, from lines or from records.
use mathlib.Core.Path.{◌≡◌, refl, sym, ap, ◌∙◌}
use mathlib.Core.List.{List, [], ◌∷◌, ◌++◌, append_assoc}
use mathlib.Core.Option.{Option, none, some}
use Prim.Native.Nat.{ℕ, ◌*◌}
use native.Mathlib.Omega.{arith}
use lib.ListN.{length, length-append}
use Rattle.rules.specs.Condition3.{All}
use Rattle.rules.specs.Frame.{Frame}
use Rattle.log_line.specs.Line.{line_of, Carried}
use Rattle.capture_record.specs.Record.{timed}
use Rattle.capture_record.proofs.Records.{length-timed}
use Rattle.capture_convert.specs.Capture.{records_of}
use Rattle.capture_convert.specs.Log.{log_of, joined}

-- frames in front of what comes; none, if that is none
abbrev pub prefixed : List Frame → Option (List Frame) → Option (List Frame)
prefixed fs none = none
prefixed fs (some gs) = some (fs ++ gs)

pub prefix-nil : (o : Option (List Frame)) → prefixed [] o ≡ o
prefix-nil none = refl
prefix-nil (some gs) = refl

pub prefix-step : (fs : List Frame) (f : Frame) (o : Option (List Frame)) → prefixed fs (joined (some f) o) ≡ prefixed (fs ++ (f ∷ [])) o
prefix-step fs f none = refl
prefix-step fs f (some gs) = ap some (sym (append_assoc fs (f ∷ []) gs))

pub joined-prefix : (f : Frame) (fs : List Frame) (o : Option (List Frame)) → joined (some f) (prefixed fs o) ≡ prefixed (f ∷ fs) o
joined-prefix f fs none = refl
joined-prefix f fs (some gs) = refl

-- both parts of frames that were joined
pub record Joined (o : Option Frame) (p : Option (List Frame)) (fs : List Frame) : Type 0 where
  pub first : Frame
  pub more : List Frame
  pub one : o ≡ some first
  pub rest : p ≡ some more
  pub all : fs ≡ first ∷ more

pub joined-parts : (o : Option Frame) (p : Option (List Frame)) (fs : List Frame) → joined o p ≡ some fs → Joined o p fs
joined-parts none p fs e = let z : ◌≡◌ {A = ℕ} 0 1 = cc in absurd (omega arith)
joined-parts (some f) none fs e = let z : ◌≡◌ {A = ℕ} 0 1 = cc in absurd (omega arith)
joined-parts (some f) (some gs) fs e = record { first = f; more = gs; one = refl; rest = refl; all = cc }

-- ── one list after another ──

pub log-append : (fs gs : List Frame) → log_of (fs ++ gs) ≡ log_of fs ++ log_of gs
unfolding log_of
log-append [] gs = refl
log-append (f ∷ fs) gs = ap (λ (x : List ℕ). line_of f ++ x) (log-append fs gs) ∙ sym (append_assoc (line_of f) (log_of fs) (log_of gs))

pub records-append : (fs gs : List Frame) → records_of (fs ++ gs) ≡ records_of fs ++ records_of gs
unfolding records_of
records-append [] gs = refl
records-append (f ∷ fs) gs = ap (λ (x : List ℕ). timed f ++ x) (records-append fs gs) ∙ sym (append_assoc (timed f) (records_of fs) (records_of gs))

pub all_append : (fs gs : List Frame) → All Carried fs → All Carried gs → All Carried (fs ++ gs)
all_append [] gs h k = k
all_append (f ∷ fs) gs h k = (h.0, all_append fs gs h.1 k)

pub length-records : (fs : List Frame) → All Carried fs → length (records_of fs) ≡ 21 * length fs
unfolding records_of
length-records [] h = omega arith
length-records (f ∷ fs) h = length-append (timed f) (records_of fs) ∙ omega (arith, length-timed f h.0.few, length-records fs h.1)
