-- `place::unknown` meets its contract: the lowest empty place, else the lowest old one.
use mathlib.Core.Path.{◌≡◌, refl, sym, ap, subst, ◌∙◌}
use mathlib.Core.List.{List, []}
use mathlib.Core.Option.{Option, none, some}
use Prim.Native.Nat.{ℕ}
use Rattle.bits.proofs.Octets.{octets-all}
use Rattle.receiver.specs.Receive.{lent}
use Rattle.receiver.proofs.Begun.{Idle}
use Rattle.receiver.proofs.Lent.{untouched}
use Rattle.receiver.proofs.Seek.{place-free, place-old, no_place}
use Rattle.rules.specs.Reception.{step_new, step_at}
use Rattle.rules.specs.Session.{waiting}
use Rattle.rules.specs.Table.{place_for}
use Rattle.session.specs.declared.Incoming.{Incoming}
use Rattle.session.specs.declared.Session.{Session}
use Rattle.session.specs.inside.Session.{idle, parsed_of}
use Rattle.state.proofs.Faultless.{long}
use Rattle.state.specs.Layout.{places_of}
use borrow.Author.Rules.{rules}
use Rattle.receiver.proofs.place.unknown.Goals as goal

-- the step at the place that was found
placed : (m p out : List ℕ) (h : Incoming) (i : ℕ) (c : Session) → c ≡ idle h.head.transfer h.time h.interface → place_for h.time (places_of m) ≡ some i
    → lent m out (step_at (places_of m) i (waiting c.expected c.time c.follows) [] (parsed_of h p)) ≡ lent m out (step_new (place_for h.time (places_of m)) (places_of m) (parsed_of h p))
unfolding step_new parsed_of
placed m p out h i c e f =
    ap (λ (x : Session). lent m out (step_at (places_of m) i (waiting x.expected x.time x.follows) [] (parsed_of h p))) e
    ∙ ap (λ (x : Option ℕ). lent m out (step_new x (places_of m) (parsed_of h p))) (sym f)

pub scan-free-requires : goal.scan-free-requires
scan-free-requires c = long c.args.state.now c.requires.called.sound

pub begin-requires : goal.begin-requires
begin-requires c =
    let a = c.args in
    let q = c.requires in
    record { called = q.called; idle = ((c.if-free-lt-SESSIONS.true, q.start.0), subst Idle (sym c.fresh-c.ensures) (q.called.transfer, (q.called.interface, (refl, refl)))) }

pub returns-then-free-lt-SESSIONS : goal.returns-then-free-lt-SESSIONS
returns-then-free-lt-SESSIONS c =
    let a = c.args in
    let q = c.requires in
    c.begin.ensures ∙ placed a.state.now a.p.now a.out.now a.f _ _ c.fresh-c.ensures
    (place-free a.state.now a.f.time _ c.scan-free.ensures c.if-free-lt-SESSIONS.true)

pub scan-old-requires : goal.scan-old-requires
scan-old-requires c = long c.args.state.now c.requires.called.sound

pub begin-requires-then-old-lt-SESSIONS : goal.begin-requires-then-old-lt-SESSIONS
begin-requires-then-old-lt-SESSIONS c =
    let a = c.args in
    let q = c.requires in
    record { called = q.called; idle = ((c.if-old-lt-SESSIONS.true, q.start.0), subst Idle (sym c.fresh-c.ensures) (q.called.transfer, (q.called.interface, (refl, refl)))) }

pub returns-then-old-lt-SESSIONS : goal.returns-then-old-lt-SESSIONS
returns-then-old-lt-SESSIONS c =
    let a = c.args in
    let q = c.requires in
    c.begin-then-old-lt-SESSIONS.ensures ∙ placed a.state.now a.p.now a.out.now a.f _ _ c.fresh-c.ensures
    (place-old a.state.now a.f.time _ c.scan-free.ensures c.if-free-lt-SESSIONS.false _ c.scan-old.ensures c.if-old-lt-SESSIONS.true)

pub returns : goal.returns
unfolding step_new
returns c =
    let a = c.args in
    let q = c.requires in
    let o = octets-all a.state.now (search rules) in
    let v = parsed_of a.f a.p.now in
    untouched a.state.now q.called.sound o a.out.now (step_new none (places_of a.state.now) v) _ refl refl a.out.now refl
    ∙ ap (λ (x : Option ℕ). lent a.state.now a.out.now (step_new x (places_of a.state.now) v))
    (sym (no_place a.state.now a.f.time _ c.scan-free.ensures c.if-free-lt-SESSIONS.false _ c.scan-old.ensures c.if-old-lt-SESSIONS.false))
