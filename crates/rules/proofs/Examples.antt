-- The cases of specs/Example.antt, specs/DamageExample.antt, specs/WhyPremises.antt, specs/Interfaces.antt and specs/BlockCases.antt, by computing; the
-- examples' claims follow by the theorems.
use mathlib.Core.Path.{◌≡◌, refl, sym, ap, subst}
use mathlib.Core.Bool.{Bool, true, false, true≢false}
use mathlib.Core.List.{List, [], ◌∷◌}
use mathlib.Core.Option.{some}
use Prim.Native.Nat.{ℕ, ◌+◌}
use native.Mathlib.Omega.{arith}
use borrow.Author.Tests.{ltb-true, leb-true, eqb-true}
use lib.ListN.{length, get_or}
use Rattle.bits.specs.Little.{le_bytes}
use Rattle.bits.specs.Order.{digits, unpack}
use Rattle.checksum.proofs.Damage.{burst-by-test}
use Rattle.checksum.specs.Crc.{shift, shifts, crc_byte, crc_over}
use Rattle.checksum.specs.Crc16.{checksum}
use Rattle.checksum.specs.Damage.{burst_max}
use Rattle.rules.specs.BlockCases.{pile, BlockCases}
use Rattle.rules.specs.Blocks.{used, times, lowest, free_block, cleared, asks}
use Rattle.rules.specs.Check.{parsed, frame_check, check}
use Rattle.rules.specs.Condition3.{frames_with, answers_to, up_to, frames, Premises, While, Brings, done, next, again, beside, Transfer, from_setup, lent, heard, rules_table}
use Rattle.rules.specs.Example.{setup, stream, payload, one, three, frame, copied, start, crowd, earlier, spacious, crowded, Example}
use Rattle.rules.specs.Damage.{Opens, Damaged}
use Rattle.rules.specs.DamageExample.{altered, damaged, unseen, DamageExample}
use Rattle.rules.specs.Frame.{same_stream, stream_of}
use Rattle.rules.specs.Interfaces.{Interfaces}
use Rattle.rules.specs.Limits.{switch_delay}
use Rattle.rules.specs.Reception.{step_block, step_ask, step_at, step_new, step_start, step_seek, step_anonymous, step_checked, step, after, run}
use Rattle.rules.specs.Sent.{tail_byte, framed, pieces, carrying, carried, sent, id_of}
use Rattle.rules.specs.SentLaws.{joined}
use Rattle.rules.specs.Session.{restarts, over, closing, take_end, take_long, takes, proceed_if, proceed, restarted, met, react}
use Rattle.rules.specs.Setup.{subscribed, signature_for}
use Rattle.rules.specs.Sound.{stream_fits, session_fits, sound}
use Rattle.rules.specs.Table.{seek, place_for}
use Rattle.rules.specs.WhyPremises.{tests, all, agreed, Sent, Tests, unnamed, twice, hearing, long, degrees, in_order, handed_out, hoard, WhyPremises}
use Rattle.rules.proofs.Arrivals.{opening, frames-each, brings-each}
use Rattle.rules.proofs.Caught.{burst-caught}
use Rattle.rules.proofs.Lift.{free}
use Rattle.rules.proofs.Theorem.{theorem}

pub example : Example
unfolding crowd sound stream_fits session_fits frames_with answers_to up_to after step step_checked step_anonymous step_seek step_start step_new used times lowest free_block cleared asks step_block step_ask step_at seek place_for check frame_check parsed stream_of same_stream subscribed react met restarted restarts proceed proceed_if over takes take_long take_end closing id_of sent carrying carried pieces checksum crc_over crc_byte shifts shift le_bytes
example =
    record {
      premises = premises;
      whiles = (spacious-while, crowded-while);
      transfer = transfer;
      alike = (theorem setup stream spacious crowded premises).alike 8 spacious-while crowded-while;
      delivered = (theorem setup stream spacious crowded premises).delivered 16 5 payload transfer spacious-while crowded-while;
    }
  where
    premises : Premises (rules_table setup) stream spacious crowded
    premises = record { pasts = (heard from_setup earlier, lent refl); typed = (free setup (spacious.start ∷ spacious.list), free setup (crowded.start ∷ crowded.list)); named = omega arith; start = refl; together = refl; take = (refl, refl); same = refl }

    spacious-while : While (rules_table setup) stream 8 spacious
    spacious-while = record { time = refl; room = refl; table = refl; blocks = refl }

    crowded-while : While (rules_table setup) stream 8 crowded
    crowded-while = record { time = refl; room = refl; table = refl; blocks = refl }

    transfer : Transfer setup stream start (frames (rules_table setup) stream spacious) 16 5 payload
    transfer =
        record {
          size = omega arith;
          fields = (omega arith, omega arith);
          signature = 0x0123456789ABCDEF;
          subscribed = refl;
          brings =
              again 10000000 (omega arith)
              (beside (copied one 10000000).arrival refl (omega arith)
              (next 10000001 (omega arith)
              (again 10001000 (omega arith)
              (beside (copied three 10001000).arrival refl (omega arith)
              (next 10002000 (omega arith)
              (again 10999999 (omega arith) (next 11000000 (omega arith) (beside (copied one 11000000).arrival refl (omega arith) done))))))));
        }

-- ── a burst ──

pub damage-example : DamageExample
unfolding sound stream_fits session_fits frames_with answers_to up_to after step step_checked step_anonymous step_seek step_start step_new used times lowest free_block cleared asks step_block step_ask step_at seek place_for check frame_check parsed stream_of same_stream subscribed react met restarted restarts proceed proceed_if over takes take_long take_end closing id_of sent carrying carried pieces joined checksum crc_over crc_byte shifts shift le_bytes unpack digits
damage-example =
    record {
      opens = opens;
      arrives = arrives;
      while = while;
      caught = burst-caught setup stream damaged opens 16 5 payload altered arrives while;
      numbers = refl;
      limit = (burst-by-test (burst_max + 1) payload unseen 39 39 refl (λ e. true≢false (sym e)) tt, refl);
    }
  where
    opens : Opens (rules_table setup) stream damaged
    opens = record { past = heard from_setup earlier; typed = free setup (damaged.start ∷ damaged.list); named = omega arith; start = refl; take = refl }

    while : While (rules_table setup) stream 8 damaged
    while = record { time = refl; room = refl; table = refl; blocks = refl }

    arrives : Damaged setup stream damaged.start.arrival (frames (rules_table setup) stream damaged) 16 5 payload altered
    arrives =
        record {
          size = (omega arith, omega arith);
          fields = (omega arith, omega arith);
          signature = 0x0123456789ABCDEF;
          subscribed = refl;
          arriving = _;
          tails = refl;
          lengths = refl;
          carried = refl;
          burst = burst-by-test burst_max payload altered 32 32 refl (λ e. true≢false (sym e)) tt;
          brings =
              again 10000000 (omega arith)
              (beside (copied one 10000000).arrival refl (omega arith)
              (next 10000001 (omega arith)
              (again 10001000 (omega arith)
              (beside (copied three 10001000).arrival refl (omega arith)
              (next 10002000 (omega arith)
              (again 10999999 (omega arith) (next 11000000 (omega arith) (beside (copied one 11000000).arrival refl (omega arith) done))))))));
        }

-- ── why the premises ──

test : (n : ℕ) (l : List Bool) → l ≡ all → get_or l n false ≡ get_or all n false
test n l e = ap (λ k. get_or k n false) e

subscribed-as : (signature : ℕ) → signature ≡ agreed → signature_for setup (id_of stream 16) ≡ some signature
unfolding subscribed id_of stream_of
subscribed-as signature e = ap some (sym e)

complete : Tests
complete =
    record {
      premises = λ d x y a b t e. record {
        pasts = (lent (test 0 (tests d x) a), lent (test 0 (tests d y) b));
        typed = (free setup (x.start ∷ x.list), free setup (y.start ∷ y.list));
        named = ltb-true 0 d.source (test 1 (tests d x) a);
        start = test 2 (tests d x) a;
        together = t;
        take = (test 3 (tests d x) a, test 3 (tests d y) b);
        same = e;
      };
      whiles = λ d x a. record { time = test 4 (tests d x) a; room = test 5 (tests d x) a; table = test 6 (tests d x) a; blocks = test 7 (tests d x) a };
      transfer = λ x signature t p h.
          record {
            size = leb-true (length p) 512 (ap (λ k. get_or k 0 false) h.fits);
            fields = (omega arith, ltb-true t 32 (ap (λ k. get_or k 1 false) h.fits));
            signature = signature;
            subscribed = subscribed-as signature (eqb-true signature agreed (ap (λ k. get_or k 2 false) h.fits));
            brings = h.brings;
          };
    }

-- frames at one time are brought in order
brought : (l : List (List ℕ)) (c : List ℕ) (more : List (List ℕ)) → l ≡ c ∷ more
    → Brings 0 (id_of stream 16) (10000000 + switch_delay) l ((hearing l).start.arrival ∷ frames (rules_table setup) stream (hearing l))
unfolding id_of stream_of same_stream
brought l c more e =
    subst (λ k. Brings 0 0x103FF22A (10000000 + switch_delay) k ((hearing k).start.arrival ∷ frames (rules_table setup) stream (hearing k))) (sym e)
    (subst (λ fs. Brings 0 0x103FF22A (10000000 + switch_delay) (c ∷ more) (frame c 10000000 ∷ fs)) (sym (frames-each 0x103FF22A stream (omega arith) refl setup 10000000 512 more))
    (brings-each 0x103FF22A 10000000 (c ∷ more)))

size-case : Sent (hearing (sent agreed 5 long)) agreed 5 long (false ∷ true ∷ true ∷ [])
    × (handed_out (hearing (sent agreed 5 long)) ≡ [])
unfolding frames_with answers_to up_to step step_checked step_anonymous step_seek step_start step_new used times lowest free_block cleared asks step_block step_ask step_at seek place_for check frame_check parsed stream_of same_stream subscribed react met restarted restarts proceed proceed_if over takes take_long take_end closing sound stream_fits session_fits id_of sent carrying carried pieces checksum crc_over crc_byte shifts shift le_bytes
size-case =
    let o = opening 5 (omega arith) (carried agreed long) in
    (record { premises = refl; fits = refl; brings = brought (sent agreed 5 long) (framed o.bytes (tail_byte true o.last false 5)) o.rest o.is }, refl)

pub why-premises : WhyPremises
unfolding crowd hoard sound stream_fits session_fits frames_with answers_to up_to step step_checked step_anonymous step_seek step_start step_new used times lowest free_block cleared asks step_block step_ask step_at seek place_for check frame_check parsed stream_of same_stream subscribed react met restarted restarts proceed proceed_if over takes take_long take_end closing id_of sent carrying carried pieces checksum crc_over crc_byte shifts shift le_bytes
why-premises =
    record {
      complete = complete;
      pasts = record { first = refl; second = refl; together = refl; same = refl; answers = (refl, refl) };
      start = record { first = refl; second = refl; together = refl; same = refl; answers = (refl, refl) };
      take = record { first = refl; second = refl; together = refl; same = refl; answers = (refl, refl) };
      time = record { first = refl; second = refl; together = refl; same = refl; answers = (refl, refl) };
      room = record { first = refl; second = refl; together = refl; same = refl; answers = (refl, refl) };
      table = record { first = refl; second = refl; together = refl; same = refl; answers = (refl, refl) };
      blocks = record { first = refl; second = refl; together = refl; same = refl; answers = (refl, refl) };
      together = (refl, refl, refl, refl, refl);
      same = (refl, refl, refl, refl, refl);
      named = (refl, named, refl);
      size = size-case;
      fields = (record { premises = refl; fits = refl; brings = brought (sent agreed 69 payload) _ _ refl }, refl, refl);
      subscribed = (record { premises = refl; fits = refl; brings = brought (sent 7 5 payload) _ _ refl }, refl);
      interfaces = (refl, refl, refl, refl, refl);
      interface = (refl, refl, refl, refl, refl);
      second = (refl, next 10000000 (omega arith) (next 10100000 (omega arith) (beside (copied one 11000001).arrival refl (omega arith) (next 11000001 (omega arith) done))), refl);
      order = (record { premises = refl; fits = refl; brings = in-order }, refl, refl, refl);
    }
  where
    in-order : Brings 0 (id_of stream 16) (10000000 + switch_delay) (sent agreed 5 degrees) (in_order.start.arrival ∷ frames (rules_table setup) stream in_order)
    in-order =
        next 10000000 (omega arith)
        (again 10100000 (omega arith) (next 10200000 (omega arith) (next 10300000 (omega arith) (next 10400000 (omega arith) done))))

    named : Transfer setup unnamed twice.start.arrival (frames (rules_table setup) unnamed twice) 16 0 (1 ∷ [])
    named =
        record {
          size = omega arith;
          fields = (omega arith, omega arith);
          signature = 7;
          subscribed = refl;
          brings = again 10000000 (omega arith) (next 10000001 (omega arith) done);
        }

pub interfaces : Interfaces
unfolding run after step step_checked step_anonymous step_seek step_start step_new used times lowest free_block cleared asks step_block step_ask step_at seek place_for check frame_check parsed stream_of same_stream subscribed react met restarted restarts proceed proceed_if over takes take_long take_end closing
interfaces = record { followed = refl; repeated = refl; switched = refl; ahead = refl; aged = refl; aged_after = refl; order = refl }

pub block-cases : BlockCases
unfolding crowd hoard pile sound stream_fits session_fits run after step step_checked step_anonymous step_seek step_start step_new used times lowest free_block cleared asks step_block step_ask step_at seek place_for check frame_check parsed stream_of same_stream subscribed react met restarted restarts proceed proceed_if over takes take_long take_end closing checksum crc_over crc_byte shifts shift le_bytes
block-cases =
    record {
      faultless = (refl, refl, refl, refl);
      faults = (refl, refl, refl, refl, refl, refl);
      lowest = refl;
      none = refl;
      place = refl;
      time = refl;
      single = refl;
      not_old = refl;
      emptied = refl;
      left = (refl, refl);
      order = (refl, refl, refl);
      eighth = (refl, refl, refl);
      closed = (refl, refl, refl, refl);
      restarted = refl;
      replaced = (refl, refl);
    }
