-- `read::read` meets its contract.
use Rattle.log_line.proofs.Steps.{unread}
use Rattle.log_line.specs.Reading.{shaped, fields_of, said, line_with, line_in}
use Rattle.log_line.specs.declared.read.Line.{Line}
use Rattle.digits.specs.Find.{before}
use Rattle.std.specs.Prelude as std
use native.Mathlib.Nat.{zero-add}
use Prim.Native.Nat.{ℕ, ◌+◌}
use mathlib.Core.Option.{none}
use mathlib.Core.List.{List}
use mathlib.Core.Bool.{true, false}
use mathlib.Core.Path.{◌≡◌, sym, ap, ◌∙◌}
use Rattle.log_line.proofs.read.read.Goals as goal

-- the search for the dot
dot : (l : List ℕ) (s : ℕ) → s ≡ 0 + before 46 l → s ≡ before 46 l
dot l s e = e ∙ zero-add (before 46 l)

fits : (l : List ℕ) (s : ℕ) (r : std.Option Line) → s ≡ before 46 l → true ≡ shaped s l → r ≡ line_with s (fields_of s l) → r ≡ line_in l
unfolding said
fits l s r e t h =
    let t' : shaped (before 46 l) l ≡ true = ap (λ (k : ℕ). shaped k l) (sym e) ∙ sym t in
    rw t' (h ∙ ap (λ (k : ℕ). line_with k (fields_of k l)) e)

misfits : (l : List ℕ) (s : ℕ) → s ≡ before 46 l → false ≡ shaped s l → said l ≡ none
unfolding said
misfits l s e t = rw (← e, ← t)

pub returns-then-is_shaped : goal.returns-then-is_shaped
returns-then-is_shaped c =
    let l = c.args.line.now in
    fits l c.find-s.result c.fields.result (dot l c.find-s.result c.find-s.ensures.0) (sym c.if-is_shaped.true
    ∙ c.is_shaped.ensures) c.fields.ensures

pub returns : goal.returns
returns c =
    let l = c.args.line.now in
    unread (before 46 l) (said l) (misfits l c.find-s.result (dot l c.find-s.result c.find-s.ensures.0) (sym c.if-is_shaped.false
    ∙ c.is_shaped.ensures))
