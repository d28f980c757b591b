-- `place::arrive` meets its contract: the stream has a place, or its start gets one.
use mathlib.Core.Path.{◌≡◌, refl, sym, ap, ◌∙◌}
use mathlib.Core.Bool.{Bool, false}
use mathlib.Core.List.{List}
use mathlib.Core.Option.{Option}
use Prim.Native.Nat.{ℕ, ◌<◌}
use native.Mathlib.Omega.{arith}
use Rattle.bits.proofs.Octets.{octets-all}
use Rattle.rules.specs.Reception.{step_seek, step_start, step_held}
use Rattle.rules.specs.Table.{Place}
use Rattle.receiver.specs.Receive.{lent}
use Rattle.session.specs.inside.Session.{stream_of, parsed_of}
use Rattle.session.specs.declared.Incoming.{Incoming}
use Rattle.state.specs.Layout.{places_of}
use Rattle.frame.specs.Key.{key_of, stream_of_key}
use Rattle.state.proofs.Faultless.{long}
use Rattle.state.proofs.Table as table
use Rattle.receiver.proofs.Lent.{head-key, key-some, key-word, untouched}
use Rattle.receiver.proofs.Seek.{place_of, no-place-of, key-found}
use borrow.Author.Rules.{rules}
use Rattle.receiver.proofs.place.arrive.Goals as goal

-- the step at the place that was found
at_place : (m out p : List ℕ) (h : Incoming) {o q : Option ℕ} → o ≡ q → lent m out (step_seek q (places_of m) (parsed_of h p)) ≡ lent m out (step_seek o (places_of m) (parsed_of h p))
at_place m out p h e = ap (λ (x : Option ℕ). lent m out (step_seek x (places_of m) (parsed_of h p))) (sym e)

pub scan-i-requires : goal.scan-i-requires
scan-i-requires c = long c.args.state.now c.requires.sound

pub known-requires : goal.known-requires
known-requires c =
    let a = c.args in
    let m = a.state.now in
    let q = c.requires in
    let d = stream_of a.f in
    let f : c.key-k.result ≡ key_of d = c.key-k.ensures in
    let o = octets-all m (search rules) in
    let z : c.key-k.result ≡ 0 → ⊥ = λ e. key-some d q.named (sym f ∙ e) in
    let w : c.key-k.result < 4294967296 = omega (arith, f, key-word d q.transfer_type q.type q.source q.destination) in
    let g : stream_of_key c.key-k.result ≡ d = ap stream_of_key f ∙ head-key d q.transfer_type q.type q.source q.destination in
    record { called = q; held = (c.if-i-lt-SESSIONS.true, (f, key-found m o (long m q.sound) d c.key-k.result z w g c.scan-i.result c.scan-i.ensures c.if-i-lt-SESSIONS.true)) }

pub returns-then-i-lt-SESSIONS : goal.returns-then-i-lt-SESSIONS
unfolding step_seek parsed_of
returns-then-i-lt-SESSIONS c =
    let a = c.args in
    let m = a.state.now in
    let q = c.requires in
    let d = stream_of a.f in
    let f : c.key-k.result ≡ key_of d = c.key-k.ensures in
    let o = octets-all m (search rules) in
    let z : c.key-k.result ≡ 0 → ⊥ = λ e. key-some d q.named (sym f ∙ e) in
    let w : c.key-k.result < 4294967296 = omega (arith, f, key-word d q.transfer_type q.type q.source q.destination) in
    let g : stream_of_key c.key-k.result ≡ d = ap stream_of_key f ∙ head-key d q.transfer_type q.type q.source q.destination in
    let v = parsed_of a.f a.p.now in
    let i = c.scan-i.result in
    c.known.ensures ∙ ap (λ (x : Place). lent m a.out.now (step_held (places_of m) i x v)) (sym (table.place_of m i c.if-i-lt-SESSIONS.true))
    ∙ at_place m a.out.now a.p.now a.f (place_of m o (long m q.sound) d c.key-k.result z w g i c.scan-i.ensures c.if-i-lt-SESSIONS.true)

pub unknown-requires : goal.unknown-requires
unknown-requires c = record { called = c.requires; start = (c.key-k.ensures, c.if-f.true) }

pub returns-then-f : goal.returns-then-f
unfolding step_seek step_start parsed_of
returns-then-f c =
    let a = c.args in
    let m = a.state.now in
    let q = c.requires in
    let d = stream_of a.f in
    let f : c.key-k.result ≡ key_of d = c.key-k.ensures in
    let o = octets-all m (search rules) in
    let z : c.key-k.result ≡ 0 → ⊥ = λ e. key-some d q.named (sym f ∙ e) in
    let w : c.key-k.result < 4294967296 = omega (arith, f, key-word d q.transfer_type q.type q.source q.destination) in
    let g : stream_of_key c.key-k.result ≡ d = ap stream_of_key f ∙ head-key d q.transfer_type q.type q.source q.destination in
    let v = parsed_of a.f a.p.now in
    c.unknown.ensures ∙ ap (λ (x : Bool). lent m a.out.now (step_start x (places_of m) v)) (sym c.if-f.true)
    ∙ at_place m a.out.now a.p.now a.f (no-place-of m o (long m q.sound) d c.key-k.result z w g c.scan-i.result c.scan-i.ensures c.if-i-lt-SESSIONS.false)

pub returns : goal.returns
unfolding step_seek step_start parsed_of
returns c =
    let a = c.args in
    let m = a.state.now in
    let q = c.requires in
    let d = stream_of a.f in
    let f : c.key-k.result ≡ key_of d = c.key-k.ensures in
    let o = octets-all m (search rules) in
    let z : c.key-k.result ≡ 0 → ⊥ = λ e. key-some d q.named (sym f ∙ e) in
    let w : c.key-k.result < 4294967296 = omega (arith, f, key-word d q.transfer_type q.type q.source q.destination) in
    let g : stream_of_key c.key-k.result ≡ d = ap stream_of_key f ∙ head-key d q.transfer_type q.type q.source q.destination in
    let v = parsed_of a.f a.p.now in
    untouched m q.sound o a.out.now (step_start false (places_of m) v) _ refl refl a.out.now refl
    ∙ ap (λ (x : Bool). lent m a.out.now (step_start x (places_of m) v)) (sym c.if-f.false)
    ∙ at_place m a.out.now a.p.now a.f (no-place-of m o (long m q.sound) d c.key-k.result z w g c.scan-i.result c.scan-i.ensures c.if-i-lt-SESSIONS.false)
