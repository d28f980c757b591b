-- `find::place` meets its contract, case by case.
use native.Mathlib.Omega.{arith}
use Rattle.id_map.proofs.Seek.{place_found, place-free, place-unused}
use Rattle.id_map.proofs.find.place.Goals as goal

pub returns-then-found-lt-MAP_ENTRIES : goal.returns-then-found-lt-MAP_ENTRIES
returns-then-found-lt-MAP_ENTRIES c =
    let a = c.args in
    place_found a.map.now a.k a.time (λ z. omega arith) c.find-found.result c.find-found.ensures c.if-found-lt-MAP_ENTRIES.true

pub returns-then-free-lt-MAP_ENTRIES : goal.returns-then-free-lt-MAP_ENTRIES
returns-then-free-lt-MAP_ENTRIES c =
    let a = c.args in
    place-free a.map.now a.k a.time (λ z. omega arith) c.find-found.result c.find-found.ensures c.if-found-lt-MAP_ENTRIES.false c.find-free.result c.find-free.ensures c.if-free-lt-MAP_ENTRIES.true

pub returns : goal.returns
returns c =
    let a = c.args in
    place-unused a.map.now a.k a.time (λ z. omega arith) c.find-found.result c.find-found.ensures c.if-found-lt-MAP_ENTRIES.false c.find-free.result c.find-free.ensures
    c.if-free-lt-MAP_ENTRIES.false c.lowest_unused.result c.lowest_unused.ensures
