-- Document 01, "The list of calls", with codes 10 and 11 of document 02, written out: a record by numbers, with no
-- definition between.
--     pattern                   a record of 64 bytes, of which no two are equal
--     pattern_call bs            the arguments that it encodes, with the bytes bs
--     pattern_data               a write's data in it: twenty bytes
--     FieldsAt                  they are its code and arguments, for a read and for a write; the call that each code names
-- Assumes nothing.
use Rattle.std.specs.Prelude.{ℕ, ◌≡◌, List, [], ◌∷◌, ◌++◌, map}
use Rattle.std.proofs.Math.Option.{none, some}
use Rattle.calls.specs.Calls.{Arguments, new_cluster, delete_cluster, new_segment, delete_segment, read, write, weaken}
use Rattle.calls.specs.Calls.{reduce, new_password, freeze, join}
use Rattle.list.specs.Records.{code_of, kind_of, arguments_of}

abbrev pub pattern : List ℕ
pattern =
    (64 ∷ 65 ∷ 66 ∷ 67 ∷ 68 ∷ 20 ∷ 70 ∷ 71 ∷ [])
    ++ (72 ∷ 73 ∷ 74 ∷ 75 ∷ 76 ∷ 77 ∷ 78 ∷ 79 ∷ 80 ∷ 81 ∷ 82 ∷ 83 ∷ 84 ∷ 85 ∷ 86 ∷ 87 ∷ 88 ∷ 89 ∷ 90 ∷ 91 ∷ 92 ∷ [])
    ++ (93 ∷ 94 ∷ 95 ∷ [])
    ++ (96 ∷ 97 ∷ 98 ∷ 99 ∷ 100 ∷ 101 ∷ 102 ∷ 103 ∷ 104 ∷ 105 ∷ 106 ∷ 107 ∷ 108 ∷ 109 ∷ 110 ∷ 111 ∷ [])
    ++ (112 ∷ 113 ∷ 114 ∷ 115 ∷ 116 ∷ 117 ∷ 118 ∷ 119 ∷ 120 ∷ 121 ∷ 122 ∷ 123 ∷ 124 ∷ 125 ∷ 126 ∷ 127 ∷ [])

-- with the bytes of a buffer, or a write's data
abbrev pattern_call : List ℕ → Arguments
pattern_call bs =
    record {
      current = 66;
      local = 68;
      width = 8;
      mode = 67;
      segment = 68;
      size = 17991;
      mask = 68;
      handle =
          72
          ∷ 73
          ∷ 74
          ∷ 75
          ∷ 76
          ∷ 77
          ∷ 78
          ∷ 79
          ∷ 80
          ∷ 81
          ∷ 82
          ∷ 83
          ∷ 84
          ∷ 85
          ∷ 86
          ∷ 87
          ∷ 88
          ∷ 89
          ∷ 90
          ∷ 91
          ∷ 92
          ∷ 93
          ∷ 94
          ∷ [];
      other =
          96
          ∷ 97
          ∷ 98
          ∷ 99
          ∷ 100
          ∷ 101
          ∷ 102
          ∷ 103
          ∷ 104
          ∷ 105
          ∷ 106
          ∷ 107
          ∷ 108
          ∷ 109
          ∷ 110
          ∷ 111
          ∷ 112
          ∷ 113
          ∷ 114
          ∷ 115
          ∷ 116
          ∷ 117
          ∷ 118
          ∷ [];
      first = 96 ∷ 97 ∷ 98 ∷ 99 ∷ 100 ∷ 101 ∷ 102 ∷ 103 ∷ 104 ∷ 105 ∷ 106 ∷ 107 ∷ 108 ∷ 109 ∷ 110 ∷ 111 ∷ [];
      second = 112 ∷ 113 ∷ 114 ∷ 115 ∷ 116 ∷ 117 ∷ 118 ∷ 119 ∷ 120 ∷ 121 ∷ 122 ∷ 123 ∷ 124 ∷ 125 ∷ 126 ∷ 127 ∷ [];
      bytes = bs;
    }

abbrev pattern_data : List ℕ
pattern_data =
    (96 ∷ 97 ∷ 98 ∷ 99 ∷ 100 ∷ 101 ∷ 102 ∷ 103 ∷ 104 ∷ 105 ∷ 106 ∷ 107 ∷ 108 ∷ 109 ∷ 110 ∷ 111 ∷ [])
    ++ (112 ∷ 113 ∷ 114 ∷ 115 ∷ [])

pub record FieldsAt : Type 0 where
  pub code : code_of pattern ≡ 65
  pub reading : (b : List ℕ) → arguments_of read pattern b ≡ pattern_call b
  pub writing : (b : List ℕ) → arguments_of write pattern b ≡ pattern_call pattern_data
  pub kinds : map kind_of (0 ∷ 1 ∷ 2 ∷ 3 ∷ 4 ∷ 5 ∷ 6 ∷ 7 ∷ 8 ∷ 9 ∷ 10 ∷ 11 ∷ 12 ∷ [])
      ≡ none
      ∷ some new_cluster
      ∷ some delete_cluster
      ∷ some new_segment
      ∷ some delete_segment
      ∷ some read
      ∷ some write
      ∷ some weaken
      ∷ some reduce
      ∷ some new_password
      ∷ some freeze
      ∷ some join
      ∷ none
      ∷ []
