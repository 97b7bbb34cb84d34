-- The example of document 01 ("The block"), and the same with a site code (document 02, T-05), are computed.
use mathlib.Core.Path.{refl}
use Rattle.line.specs.Node.{at_site, beyond}
use Rattle.line.specs.Accepted.{in_range, lies_beyond, has_sides}
use Rattle.octets.specs.Bytes.{sum_words, all_zero}
use Rattle.block.specs.Layout.{check_holds, place_at, places_hold, messages, header_holds, rest_holds, fields_hold, station_of, node_of, fault_of}
use Rattle.fields.specs.Fields.{place_of, neighbour_of}
use Rattle.writing.specs.Encoding.{place_bytes, places_bytes, header, with_check, encode}
use Rattle.writing.specs.Claims.{example_node, example_block, CheckExample, site_block, SiteExample}

pub check_example : CheckExample
unfolding example_node example_block beyond in_range lies_beyond has_sides sum_words all_zero check_holds place_of place_at places_hold messages header_holds rest_holds fields_hold neighbour_of station_of node_of fault_of place_bytes places_bytes header with_check encode
check_example = record { written = refl; words = refl; ending = refl; accepted = refl; zeros = refl }

pub site_example : SiteExample
unfolding example_node site_block at_site beyond in_range lies_beyond has_sides sum_words all_zero check_holds place_of place_at places_hold messages header_holds rest_holds fields_hold neighbour_of station_of node_of fault_of place_bytes places_bytes header with_check encode
site_example = record { written = refl; read = refl; words = refl; accepted = refl; largest = refl; above = refl }
