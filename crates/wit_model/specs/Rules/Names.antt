-- Names of locks and types, and of source files.
use Rattle.std.specs.Prelude.{ℕ, Bool, ◌&&◌, List, length, nat_le, not, ◌==◌}
use Rattle.std.specs.List.{list_all}

-- a byte of a name: printable, the space among them, and no quotation mark
abbrev pub is_name_byte : ℕ → Bool
is_name_byte b = nat_le 0x20 b && nat_le b 0x7e && not (b == 0x22)

-- how many bytes a name has at most
abbrev pub longest_name : ℕ
longest_name = 63

-- one byte or more, and not too many
abbrev pub is_name : List ℕ → Bool
is_name name =
    not (length name == 0) && nat_le (length name) longest_name && list_all is_name_byte name

-- a byte of a file name: printable, and neither a space nor a quotation mark
abbrev pub is_file_byte : ℕ → Bool
is_file_byte b = nat_le 0x21 b && nat_le b 0x7e && not (b == 0x22)

-- how many bytes a file name has at most
abbrev pub longest_file_name : ℕ
longest_file_name = 255

-- one byte or more, and not too many
abbrev pub is_file_name : List ℕ → Bool
is_file_name name =
    not (length name == 0) && nat_le (length name) longest_file_name && list_all is_file_byte name
