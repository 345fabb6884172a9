-- What a book holds with the memory that is lent to it. Assumes nothing.
use Rattle.entries.specs.Entries.{Entries}
use Rattle.books.specs.declared.state.in_memory.BookInMemory.{BookInMemory}
use Rattle.books.specs.Held.{book_of}

-- what the lines of the book gave, as its memory has it
abbrev pub entries_in : BookInMemory → Entries
entries_in b = (book_of b.book.now b.memory.now).entries
