-- What a file in memory has.
use Rattle.std.specs.Prelude.{ℕ, List}
use Rattle.empty_database.specs.declared.memory_file.MemoryFile.{MemoryFile}

abbrev pub bytes_of : MemoryFile → List ℕ
bytes_of m = m.bytes.items
