-- RULES 10.7: GetNodeInfo's response. NodeStatus; software version major 8, minor 8, flags 8, commit 32, image CRC 64; hardware version
-- major 8, minor 8, unique ID 16 bytes, certificate list of at most 255; name list of at most 80.
use Rattle.std.specs.Prelude.{Bool, List, ℕ, ◌+◌, pos, length, drop}
use Rattle.bits.specs.Order.{unpack, from_bits}
use Rattle.bits.specs.Part.{span}
use Rattle.bits.specs.Width.{width_of}
use Rattle.shape.specs.Answer.{Numbered, numbered, map_answer}
use Rattle.shape.specs.Shape.{Shape, uint, raw, items, list, tail, Values, decoded}
use Rattle.protocol.specs.NodeStatus.{status_then, status_values, status_at}
use Rattle.protocol.specs.Name.{is_name}
use Rattle.protocol.specs.declared.get_node_info_response.Numbers.{Numbers}
use Rattle.protocol.specs.declared.get_node_info_response.Response.{Response}

-- an image CRC has 64 bits here and in the struct, so that none is out of range
abbrev pub software_then : Shape → Shape
software_then d = uint 8 (uint 8 (uint 8 (uint 32 (raw 64 d))))

-- the numbers after the status, and what follows them
abbrev pub versions_then : Shape → Shape
versions_then d = software_then (uint 8 (uint 8 d))

-- RULES 9.4: the name follows the certificate, so the certificate has a length field; nothing follows the name, so it has none
abbrev pub lists : Shape
lists = items 8 16 (list 8 255 (tail 8 80 is_name))

abbrev pub response : Shape
response = status_then (versions_then lists)

-- the certificate starts after its length field, the name after the certificate
unfoldable pub certificate_length : List ℕ → ℕ
certificate_length p = from_bits (width_of 255) (drop 320 (unpack p))

-- RULES 9.9: the lists as parts of the payload
abbrev pub unique_id_in : List ℕ → List ℕ
unique_id_in p = span p 24 16

abbrev pub certificate_in : List ℕ → List ℕ
certificate_in p = span p 41 (certificate_length p)

abbrev pub name_in : List ℕ → List ℕ
name_in p = drop (41 + certificate_length p) p

-- the struct's values
abbrev pub version_values : Numbers → (d : Shape) → Values d → Values (versions_then d)
version_values m d rest =
    let v = m.software_version in
    (v.major, (v.minor, (v.optional_field_flags, (v.vcs_commit, (v.image_crc, (m.hardware_version_major, (m.hardware_version_minor, rest)))))))

abbrev pub number_values : Numbers → (d : Shape) → Values d → Values (status_then (versions_then d))
number_values m d rest = status_values m.status (versions_then d) (version_values m d rest)

abbrev pub response_of : Values response → Response
response_of
    (uptime, (health, (mode, (vendor, (major, (minor, (flags, (commit, (crc, (hardware, (revision, (unique, (certificate, name))))))))))))) =
    record {
      status = record { uptime_sec = uptime; health = health; mode = mode; sub_mode = pos 0; vendor_specific_status_code = vendor };
      software_version = record { major = major; minor = minor; optional_field_flags = flags; vcs_commit = commit; image_crc = crc };
      hardware_version = record {
        major = hardware;
        minor = revision;
        unique_id = record { at = 24; len = length unique };
        certificate_of_authenticity = record { at = 41; len = length certificate };
      };
      name = record { at = 41 + length certificate; len = length name };
    }

-- what a payload gives
abbrev pub response_in : List ℕ → Numbered Response
response_in p = numbered (map_answer response_of (decoded response p))

-- the numbers at the front of bits
unfoldable pub numbers_at : List Bool → Numbers
numbers_at bs =
    record {
      status = status_at bs;
      software_version = record {
        major = pos (from_bits 8 (drop 56 bs));
        minor = pos (from_bits 8 (drop 64 bs));
        optional_field_flags = pos (from_bits 8 (drop 72 bs));
        vcs_commit = pos (from_bits 32 (drop 80 bs));
        image_crc = from_bits 64 (drop 112 bs);
      };
      hardware_version_major = pos (from_bits 8 (drop 176 bs));
      hardware_version_minor = pos (from_bits 8 (drop 184 bs));
    }
