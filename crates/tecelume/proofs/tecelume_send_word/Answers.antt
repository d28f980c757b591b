-- `tecelume_send_word` meets its contract: the proved call, its answer as a word.
use mathlib.Core.Path.{◌≡◌, refl, sym, ap, subst, ◌∙◌}
use mathlib.Core.Bool.{Bool, true, false}
use mathlib.Core.List.{List}
use mathlib.Mathlib.Data.Bool.Basic.{and_elim_right}
use Prim.Native.Nat.{ℕ, ◌≤◌, ◌<◌}
use lib.Dec.{leb}
use native.Mathlib.Omega.{arith}
use lib.ListN.{length}
use Rattle.answers.specs.Sending.{dispatch_in}
use Rattle.answers.specs.declared.Dispatch.{Dispatch}
use Rattle.answers.proofs.Sending.{told-dispatch}
use Rattle.tecelume.specs.Entry.{entry, packed_send}
use Rattle.id_map.specs.Layout.{size, map_of}
use Rattle.id_map.specs.Sound.{sound_map}
use Rattle.rules.specs.Sending.{Call, send_step}
use Rattle.rules.proofs.Sends.{record-laws}
use Rattle.sender.specs.Send.{sends_if, sends, Result}
use Rattle.tecelume.proofs.tecelume_send_word.Goals as goal

-- as many frames as 512 bytes make, at most, under a transfer ID in range
fits : (m : List ℕ) (c : Call) (out : List ℕ) → ((dispatch_in (sends m c out).answer).frames ≤ 74) × ((dispatch_in (sends m c out).answer).transfer < 32)
unfolding sends sends_if sound_map
fits m c out = go (sound_map m) refl
  where
    go : (b : Bool) → sound_map m ≡ b → ((dispatch_in (sends_if b m c out).answer).frames ≤ 74) × ((dispatch_in (sends_if b m c out).answer).transfer < 32)
    go false e = (omega arith, omega arith)
    go true e =
        let o = (send_step c (map_of m) (length out)).answer in
        subst (λ (d : Dispatch). (d.frames ≤ 74) × (d.transfer < 32)) (sym (told-dispatch o))
        (record-laws.few c (map_of m) (length out), record-laws.transfer c (map_of m) (length out) (and_elim_right (leb size (length m)) _ e))

pub of_sent-requires : goal.of_sent-requires
of_sent-requires c =
    let a = c.args in
    let call : Call =
    record {
      own = a.own;
      transfer_type = a.transfer_type;
      type = a.type_id;
      destination = a.destination;
      priority = a.priority;
      payload = a.payload.now;
      signature = a.signature;
      time = a.time;
      transfer = a.transfer_id;
      discriminator = a.discriminator;
    } in
    subst (λ (r : Result). ((dispatch_in r.answer).frames ≤ 74) × ((dispatch_in r.answer).transfer < 32)) (sym c.send.ensures) (fits a.map.now call a.out.now)

pub returns : goal.returns
returns c =
    ap (λ (w : ℕ). entry w c.send.new.map c.send.new.out) c.of_sent.ensures ∙ ap packed_send c.send.ensures
