-- RULES 5.4, 5.5 and 5.7: a table of places without a fault. Each field is in range, toggle 1 goes with bytes in hand, no stream has two places,
-- no block two sessions (RULES 4.12).
use Rattle.std.specs.Prelude.{◌≡◌, Bool, true, not, ◌&&◌, ◌||◌, List, [], ◌∷◌, ℕ, ltb, leb, eqb, length}
use Rattle.rules.specs.Blocks.{need, used, times}
use Rattle.rules.specs.Check.{Reception}
use Rattle.rules.specs.Frame.{Stream}
use Rattle.rules.specs.Limits.{blocks_max, gathered_max, interfaces_max, sessions_max}
use Rattle.rules.specs.Reception.{step}
use Rattle.rules.specs.Session.{Session}
use Rattle.rules.specs.Setup.{Setup}
use Rattle.rules.specs.Table.{Place, empty, held, Places, begun, holds}
use Rattle.rules.specs.Tests.{pick, is_empty}

-- a message's type is below 65536 and its destination 0
abbrev pub message_fits : Stream → Bool
message_fits d = ltb d.type 65536 && eqb d.destination 0

-- a service's type is below 256 and its destination named
abbrev pub service_fits : Stream → Bool
service_fits d = ltb d.type 256 && (ltb 0 d.destination && ltb d.destination 128)

-- a stream with a named source
unfoldable pub stream_fits : Stream → Bool
stream_fits d = (ltb 0 d.source && ltb d.source 128) && (ltb d.transfer_type 3 && pick (eqb d.transfer_type 0) (message_fits d) (service_fits d))

unfoldable pub session_fits : Session → Bool
session_fits s =
    (ltb s.expected 32 && ltb s.follows interfaces_max)
    && (leb (length s.gathered) gathered_max && (not s.toggle || not (is_empty s.gathered)))

-- RULES 5.5: of an empty place nothing but its emptiness is read. RULES 4.12: a session has just as many blocks as its gathered bytes need.
abbrev pub place_fits : Place → Bool
place_fits empty = true
place_fits (held d s bs) = stream_fits d && (session_fits s && eqb (length bs) (need (length s.gathered)))

abbrev pub places_fit : Places → Bool
places_fit [] = true
places_fit (p ∷ ps) = place_fits p && places_fit ps

abbrev pub none_holds : Stream → Places → Bool
none_holds d [] = true
none_holds d (p ∷ ps) = not (holds d p) && none_holds d ps

abbrev pub not_again : Place → Places → Bool
not_again empty ps = true
not_again (held d s bs) ps = none_holds d ps

-- no two places hold one stream
abbrev pub apart : Places → Bool
apart [] = true
apart (p ∷ ps) = not_again p ps && apart ps

-- every block is free or in exactly one session: those in use are blocks, and none is there twice
abbrev pub blocks_fit : List ℕ → Bool
blocks_fit [] = true
blocks_fit (b ∷ l) = (ltb b blocks_max && eqb (times b l) 0) && blocks_fit l

unfoldable pub sound : Places → Bool
sound ps = (eqb (length ps) sessions_max && blocks_fit (used ps)) && (places_fit ps && apart ps)

-- RULES 5.7: setup leaves such a table, and every reception keeps it one
pub record Lasting : Type 0 where
  pub setup : sound begun ≡ true
  pub reception : (u : Setup) (ps : Places) (r : Reception) → sound ps ≡ true → sound (step u ps r).places ≡ true
