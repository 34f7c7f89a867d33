-- Worked examples: what the definitions give for texts whose answers are known.
use Rattle.std.specs.Prelude.{ℕ, ◌≡◌, refl, List, [], ◌∷◌, ◌++◌, map, replicate, codes}
use Rattle.str_indices.specs.Text.{Text, line_feed, carriage_return, cut}
use Rattle.str_indices.specs.Schemes.{Scheme, Chars, Utf16, Lf, Crlf, Lines, every_scheme, vertical_tab, form_feed, next_line, line_separator, paragraph_separator, count, from_byte_idx, to_byte_idx, surrogates}

-- Schemes, numbers and texts

abbrev line_schemes : List Scheme
line_schemes = Lf ∷ Crlf ∷ Lines ∷ []

-- the greatest index of 64 bits
abbrev greatest_index : ℕ
greatest_index = 18446744073709551615

-- せかい, three chars of three bytes each
abbrev sekai : Text
sekai = 0x305B ∷ 0x304B ∷ 0x3044 ∷ []

-- Hello せかい!
abbrev greeting : Text
greeting = codes "Hello " ++ sekai ++ codes "!"

-- 🐸, which takes four bytes and two UTF-16 code units
abbrev frog : ℕ
frog = 0x1F438

-- Hel🐸lo world! こん🐸にち🐸🐸は!
abbrev greeting_with_frogs : Text
greeting_with_frogs = codes "Hel" ++ frog ∷ codes "lo world! "
    ++ 0x3053 ∷ 0x3093 ∷ frog ∷ 0x306B ∷ 0x3061 ∷ frog ∷ frog ∷ 0x306F ∷ codes "!"

-- aaaaaaa🐸b
abbrev letters_around_frog : Text
letters_around_frog = codes "aaaaaaa" ++ frog ∷ codes "b"

abbrev letters_around_crlf : Text
letters_around_crlf = codes "a" ++ carriage_return ∷ line_feed ∷ codes "b"

-- CR CR LF LF
abbrev crlf_between_breaks : Text
crlf_between_breaks = carriage_return ∷ carriage_return ∷ line_feed ∷ line_feed ∷ []

abbrev letters_around_line_separator : Text
letters_around_line_separator = codes "a" ++ line_separator ∷ codes "b"

-- é, of two bytes, then U+0085, of two bytes, and x
abbrev next_line_after_accent : Text
next_line_after_accent = 0xE9 ∷ next_line ∷ codes "x"

-- seven breaks by `Lines`; LF is in three of them, one of which is CRLF
abbrev seven_breaks : Text
seven_breaks = line_feed ∷ codes "Hello"
    ++ carriage_return ∷ line_feed ∷ 0x305B ∷ vertical_tab ∷ 0x304B ∷ form_feed ∷ 0x3044 ∷ next_line ∷ codes ". There"
    ++ line_feed ∷ codes "is something."
    ++ paragraph_separator ∷ []

-- eight breaks by `Lines`, of each kind
abbrev every_break : Text
every_break = line_feed ∷ codes "Hello"
    ++ carriage_return ∷ line_feed ∷ carriage_return ∷ 0x305B ∷ vertical_tab ∷ 0x304B ∷ form_feed ∷ 0x3044 ∷ next_line
    ∷ codes ". There"
    ++ line_separator ∷ codes "is something."
    ++ paragraph_separator ∷ []

-- Characters

five_greetings_have_54_characters :
    count Chars
    (greeting ++ codes " " ++ greeting ++ codes " " ++ greeting ++ codes " " ++ greeting ++ codes " " ++ greeting)
    ≡ 54
five_greetings_have_54_characters = refl

byte_inside_a_character_is_before_its_end : map (from_byte_idx Chars sekai) (0 ∷ 2 ∷ 3 ∷ 8 ∷ 9 ∷ 12 ∷ [])
    ≡ 0 ∷ 0 ∷ 1 ∷ 2 ∷ 3 ∷ 3 ∷ []
byte_inside_a_character_is_before_its_end = refl

each_character_begins_at_its_byte : map (to_byte_idx Chars greeting) (0 ∷ 1 ∷ 2 ∷ 5 ∷ 6 ∷ 8 ∷ 9 ∷ 10 ∷ [])
    ≡ 0 ∷ 1 ∷ 2 ∷ 5 ∷ 6 ∷ 12 ∷ 15 ∷ 16 ∷ []
each_character_begins_at_its_byte = refl

-- UTF-16 code units

frogs_have_two_units_each : count Utf16 greeting_with_frogs ≡ 27
frogs_have_two_units_each = refl

frogs_are_surrogate_pairs : surrogates greeting_with_frogs ≡ 4
frogs_are_surrogate_pairs = refl

units_count_from_the_end_of_the_frog :
    map (from_byte_idx Utf16 greeting_with_frogs) (3 ∷ 6 ∷ 7 ∷ 26 ∷ 27 ∷ 45 ∷ 46 ∷ [])
    ≡ 3 ∷ 3 ∷ 5 ∷ 17 ∷ 19 ∷ 27 ∷ 27 ∷ []
units_count_from_the_end_of_the_frog = refl

second_unit_is_at_the_byte_of_the_first :
    map (to_byte_idx Utf16 greeting_with_frogs) (17 ∷ 18 ∷ 19 ∷ 27 ∷ 28 ∷ [])
    ≡ 23 ∷ 23 ∷ 27 ∷ 45 ∷ 45 ∷ []
second_unit_is_at_the_byte_of_the_first = refl

unit_past_the_last_is_at_the_size : map (to_byte_idx Utf16 letters_around_frog) (7 ∷ 8 ∷ 9 ∷ 10 ∷ 11 ∷ [])
    ≡ 7 ∷ 7 ∷ 11 ∷ 12 ∷ 12 ∷ []
unit_past_the_last_is_at_the_size = refl

many_frogs_have_twice_as_many_units : count Utf16 (replicate 20 frog) ≡ 40
many_frogs_have_twice_as_many_units = refl

last_units_of_many_frogs : map (to_byte_idx Utf16 (replicate 20 frog)) (39 ∷ 40 ∷ []) ≡ 76 ∷ 80 ∷ []
last_units_of_many_frogs = refl

-- Lines, by all three sets of breaks

crlf_counts_from_behind_its_line_feed :
    map (λ s. map (from_byte_idx s letters_around_crlf) (2 ∷ 3 ∷ [])) line_schemes
    ≡ replicate 3 (0 ∷ 1 ∷ [])
crlf_counts_from_behind_its_line_feed = refl

line_begins_after_crlf : map (λ s. to_byte_idx s letters_around_crlf 1) line_schemes ≡ replicate 3 3
line_begins_after_crlf = refl

many_line_feeds_are_as_many_breaks : map (λ s. count s (replicate 20 line_feed)) line_schemes ≡ replicate 3 20
many_line_feeds_are_as_many_breaks = refl

line_past_the_last_is_at_the_size :
    map (λ s. map (to_byte_idx s (replicate 20 line_feed)) (19 ∷ 21 ∷ [])) line_schemes ≡ replicate 3 (19 ∷ 20 ∷ [])
line_past_the_last_is_at_the_size = refl

-- Lines, by LF alone

only_line_feeds_are_breaks : count Lf seven_breaks ≡ 3
only_line_feeds_are_breaks = refl

-- Lines, by LF, CR and CRLF

crlf_is_one_break : count Crlf seven_breaks ≡ 3
crlf_is_one_break = refl

return_and_line_feed_beside_crlf_are_breaks : count Crlf crlf_between_breaks ≡ 3
return_and_line_feed_beside_crlf_are_breaks = refl

breaks_before_each_byte : map (from_byte_idx Crlf crlf_between_breaks) (0 ∷ 1 ∷ 2 ∷ 3 ∷ 4 ∷ []) ≡ 0 ∷ 1 ∷ 1 ∷ 2 ∷ 3 ∷ []
breaks_before_each_byte = refl

byte_behind_each_break : map (to_byte_idx Crlf crlf_between_breaks) (0 ∷ 1 ∷ 2 ∷ 3 ∷ 4 ∷ []) ≡ 0 ∷ 1 ∷ 3 ∷ 4 ∷ 4 ∷ []
byte_behind_each_break = refl

line_separator_is_no_break : to_byte_idx Crlf letters_around_line_separator 1 ≡ 5
line_separator_is_no_break = refl

-- Lines, by all seven break chars

each_kind_of_break_counts : map (count Lines) (seven_breaks ∷ every_break ∷ []) ≡ 7 ∷ 8 ∷ []
each_kind_of_break_counts = refl

line_begins_behind_the_line_separator : to_byte_idx Lines letters_around_line_separator 1 ≡ 4
line_begins_behind_the_line_separator = refl

next_line_counts_from_its_end : map (from_byte_idx Lines next_line_after_accent) (2 ∷ 3 ∷ 4 ∷ []) ≡ 0 ∷ 0 ∷ 1 ∷ []
next_line_counts_from_its_end = refl

line_begins_behind_next_line : map (to_byte_idx Lines next_line_after_accent) (1 ∷ 2 ∷ []) ≡ 4 ∷ 5 ∷ []
line_begins_behind_next_line = refl

-- The empty text, in every scheme

empty_text_counts_nothing : map (λ s. count s []) every_scheme ≡ replicate 5 0
empty_text_counts_nothing = refl

nothing_is_before_any_byte_of_the_empty_text :
    map (λ s. map (from_byte_idx s []) (0 ∷ greatest_index ∷ [])) every_scheme
    ≡ replicate 5 (0 ∷ 0 ∷ [])
nothing_is_before_any_byte_of_the_empty_text = refl

any_index_of_the_empty_text_is_at_byte_0 :
    map (λ s. map (to_byte_idx s []) (0 ∷ greatest_index ∷ [])) every_scheme
    ≡ replicate 5 (0 ∷ 0 ∷ [])
any_index_of_the_empty_text_is_at_byte_0 = refl

-- Cuts

cut_between_return_and_line_feed_keeps_the_return : cut letters_around_crlf 2 ≡ codes "a" ++ carriage_return ∷ []
cut_between_return_and_line_feed_keeps_the_return = refl

return_at_the_end_of_a_cut_is_a_break : map (λ s. count s (cut letters_around_crlf 2)) line_schemes ≡ 0 ∷ 1 ∷ 1 ∷ []
return_at_the_end_of_a_cut_is_a_break = refl
