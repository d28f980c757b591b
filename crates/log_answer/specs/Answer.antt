-- RULES 12.5: the text of an answer, after the time.
use Rattle.std.specs.Prelude.{List, [], ◌∷◌, ◌++◌, ℕ, eqb, take}
use Rattle.rules.specs.Tests.{pick}
use Rattle.answers.specs.Reception.{number_of, transfer_in}
use Rattle.answers.specs.declared.Answer.{Answer}
use Rattle.answers.specs.declared.Transfer.{Transfer}
use Rattle.digits.specs.Digits.{words, hexes}

-- "+ 0" or "-" and a number
unfoldable pub numbered : ℕ → ℕ → List ℕ
numbered sign n = 32 ∷ sign ∷ (words (n ∷ []) ++ (10 ∷ []))

-- M, Q, R
abbrev pub letter_of : ℕ → ℕ
letter_of type = pick (eqb type 0) 77 (pick (eqb type 1) 81 82)

-- an empty payload prints a dash
abbrev pub payload_text : List ℕ → List ℕ
payload_text [] = 45 ∷ []
payload_text (b ∷ bs) = hexes (b ∷ bs)

-- kind, type, source, destination, priority, transfer ID, length, payload
unfoldable pub transfer_text : Transfer → List ℕ → List ℕ
transfer_text t p =
    32 ∷ letter_of t.transfer_type ∷ (words (t.type_id ∷ t.source ∷ t.destination ∷ t.priority ∷ t.transfer ∷ t.len ∷ [])
    ++ (32 ∷ (payload_text p ++ (10 ∷ []))))

-- of the receiver's output buffer, where the payload is in front
unfoldable pub answer_text : Answer → List ℕ → List ℕ
answer_text a out =
    pick (eqb (number_of a) 1) (transfer_text (transfer_in a) (take (transfer_in a).len out)) (numbered (pick (eqb (number_of a) 0) 43 45) (number_of a))
