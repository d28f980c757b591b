-- `sound::is_sound` meets its contract.
use mathlib.Core.Path.{sym, ap, ◌∙◌}
use mathlib.Core.Bool.{◌&&◌}
use native.Mathlib.Omega.{arith}
use Rattle.bits.specs.Tabulate.{every}
use Rattle.id_map.specs.Layout.{key_at}
use Rattle.id_map.specs.inside.Sound.{empty_or_fits}
use Rattle.id_map.proofs.Soundness.{sound-short, whole}
use Rattle.keys.specs.inside.Keys.{distinct}
use Rattle.rules.specs.Limits.{entries_max}
use Rattle.id_map.proofs.sound.is_sound.Goals as goal

pub returns-then-map-lt-SIZE : goal.returns-then-map-lt-SIZE
returns-then-map-lt-SIZE c = sym (sound-short c.args.map.now c.if-map-lt-SIZE.true)

pub places_sound-requires : goal.places_sound-requires
unfolding key_at
places_sound-requires c = (omega arith, c.load.ensures)

pub returns : goal.returns
unfolding key_at
returns c =
    let m = c.args.map.now in
    c.places_sound.ensures ∙ ap (λ x. every (empty_or_fits m) 0 entries_max && distinct x) c.load.ensures ∙ whole m c.if-map-lt-SIZE.false
