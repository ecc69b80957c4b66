mod SomeRows
