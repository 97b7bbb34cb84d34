-- The example of document 01 ("The printed listing"), one of each reason (document 02, T-02), and lines with a site code (document 02, T-05) are
-- computed.
use mathlib.Core.Path.{refl}
use Rattle.line.specs.Node.{at_site}
use Rattle.words.specs.Words.{digits, decimal, neighbour_text, mark_text, content_text, spaced, parted}
use Rattle.text.specs.Listing.{line_text, head_text, station_words, station_text, stations_text, prints_stations, listing_text}
use Rattle.text.specs.Claims.{ListingExample, ReasonExamples, SiteExamples}

pub listing_example : ListingExample
unfolding digits decimal neighbour_text mark_text content_text spaced parted line_text head_text station_words station_text stations_text prints_stations listing_text
listing_example = record { listing = refl }

pub reason_examples : ReasonExamples
unfolding digits decimal neighbour_text mark_text content_text spaced parted line_text head_text station_words station_text stations_text prints_stations listing_text
reason_examples = record { own_bag = refl; holder = refl }

pub site_examples : SiteExamples
unfolding at_site digits decimal neighbour_text mark_text content_text spaced parted line_text station_words station_text
site_examples = record { behind = refl; alone = refl; largest = refl; nothing = refl }
