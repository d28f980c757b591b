-- RULES 13.5, 10.6, 10.7: GetNodeInfo's request and response as rows.
use Rattle.std.specs.Prelude.{List, [], ◌∷◌, ◌++◌, ℕ, get_or}
use Rattle.shape.specs.Answer.{Answer, map_answer}
use Rattle.shape.specs.Shape.{Values, decoded, encoded}
use Rattle.protocol.specs.GetNodeInfoRequest.{request}
use Rattle.protocol.specs.GetNodeInfoResponse.{lists, response, number_values, response_of}
use Rattle.protocol.specs.declared.get_node_info_response.HardwareVersion.{HardwareVersion}
use Rattle.protocol.specs.declared.get_node_info_response.Numbers.{Numbers}
use Rattle.protocol.specs.declared.get_node_info_response.Response.{Response}
use Rattle.protocol.specs.declared.get_node_info_response.SoftwareVersion.{SoftwareVersion}
use Rattle.row.specs.Row.{word, place_words, count_at, given}
use Rattle.message_fields.specs.NodeStatus.{status_words, status_from}

abbrev pub request_words : Values request → List ℕ
request_words v = []

abbrev pub request_in : List ℕ → Answer (List ℕ)
request_in p = map_answer request_words (decoded request p)

abbrev pub request_made : List ℕ → ℕ → Answer (List ℕ)
request_made ws room = given 0 ws (encoded request tt room)

abbrev pub software_words : SoftwareVersion → List ℕ
software_words v = word v.major ∷ word v.minor ∷ word v.optional_field_flags ∷ word v.vcs_commit ∷ v.image_crc ∷ []

abbrev pub hardware_words : HardwareVersion → List ℕ
hardware_words v = word v.major ∷ word v.minor ∷ place_words v.unique_id (place_words v.certificate_of_authenticity [])

abbrev pub response_words : Response → List ℕ
response_words x = status_words x.status ++ (software_words x.software_version ++ (hardware_words x.hardware_version ++ place_words x.name []))

abbrev pub response_in : List ℕ → Answer (List ℕ)
response_in p = map_answer response_words (map_answer response_of (decoded response p))

abbrev pub software_from : List ℕ → SoftwareVersion
software_from ws =
    record {
      major = count_at ws 5;
      minor = count_at ws 6;
      optional_field_flags = count_at ws 7;
      vcs_commit = count_at ws 8;
      image_crc = get_or ws 9 0;
    }

abbrev pub numbers_from : List ℕ → Numbers
numbers_from ws =
    record {
      status = status_from ws;
      software_version = software_from ws;
      hardware_version_major = count_at ws 10;
      hardware_version_minor = count_at ws 11;
    }

abbrev pub response_made : List ℕ → List ℕ → List ℕ → List ℕ → ℕ → Answer (List ℕ)
response_made ws unique certificate name room =
    given 18 ws (encoded response (number_values (numbers_from ws) lists (unique, (certificate, name))) room)
